-- Which plain value the words that were gathered represent.
use Rattle.prompt_core.specs.declared.word.Gathered as gathereds
use Rattle.prompt_core.specs.Reader.{Gathered}

abbrev pub gathered_view : gathereds.Gathered → Gathered
gathered_view gathered = record {
  words = gathered.words.items;
  lock_line = gathered.lock_line.items;
  lock = gathered.lock;
  vga = gathered.vga;
}
