-- Each entry goes after those before it.
use Rattle.std.proofs.Common.{◌≡◌, ◌∷◌, [], map, List, sym, subst, Result, Ok, Err, rules}
use Rattle.disk_trait.specs.declared.disks.Disks.{Ghosts}
use Rattle.disk_trait.specs.Past.{Told}
use Rattle.lilo_model.specs.MinixEntries.{PlacedEntry}
use Rattle.lilo_model.specs.MinixParts.{parts_of}
use Rattle.lilo_model.specs.LdiskVerdict.{silent, piece_verdict, entry_text}
use Rattle.minix_zones.specs.declared.volume.Volume.{Volume}
use Rattle.minix_zones.specs.Volume.{volume_view, past_of, SameVolume}
use Rattle.minix_zones.proofs.SameLemmas.{told_back}
use Rattle.minix_tree.specs.Directory.{without_place}
use Rattle.minix_tree.specs.Placed.{entry_view}
use Rattle.ldisk_run.specs.Listing.{lines_behind}
use Rattle.ldisk_run.specs.Pieces.{Held, held_by}
use Rattle.ldisk_run.specs.Run.{Does}
use Rattle.ldisk_run.specs.declared.halt.Halt.{Halt}
use Rattle.ldisk_run.proofs.EntryLemmas.{Listed, listed_none, listed_more, listed_ended, listed_all}
use Rattle.disk_trait.proofs.ToldLemmas.{told_map, told_both, told_all}
use Rattle.ldisk_run.proofs.ls.put_each.Goals as goal

pub loop-entry-init : goal.loop-entry-init
loop-entry-init g c =
    let volume = c.args.volume.now in
    let held = held_by g.O.Sink c.args.out.now in
    let same : c.into_iter-entry-iterator.result ≡ c.args.entries = search rules in
    record {
      can_next = tt;
      is_finite = tt;
      told = told_all (past_of volume) (λ now. Listed (volume_view volume).layout (parts_of (volume_view volume) now) held held c.into_iter-entry-iterator.result c.args.entries)
          (λ now. subst (λ (rest : List PlacedEntry). Listed (volume_view volume).layout (parts_of (volume_view volume) now) held held rest c.args.entries) (sym same)
          (listed_none (volume_view volume).layout (parts_of (volume_view volume) now) held c.args.entries));
      same = search rules;
      later = search rules;
      failed = search rules;
      same_reference = search rules;
    }

-- what was done of an entry, on the volume as it was at first
done_first :
    {D : Type 0} {disks : Ghosts D} (old mid : Volume D disks) (entry : PlacedEntry) (result : Result (Unit {0}) Halt) (b c : Held)
    → SameVolume old mid
    → Told (past_of mid) (λ now. Does (piece_verdict (entry_text (volume_view mid).layout (parts_of (volume_view mid) now) (without_place entry))) result b c)
    → Told (past_of old) (λ now. Does (piece_verdict (entry_text (volume_view old).layout (parts_of (volume_view old) now) (without_place entry))) result b c)
done_first old mid entry result b c same done =
    told_back old mid (λ volume now. Does (piece_verdict (entry_text volume.layout (parts_of volume now) (without_place entry))) result b c) same done

pub loop-entry-preserved : goal.loop-entry-preserved
loop-entry-preserved g c =
    let old = c.args.volume.now in
    let held = held_by g.O.Sink in
    let entry = entry_view c.in-Some.entry in
    let rest = c.loop-entry.entry-iterator in
    let behind = c.next.new.self in
    let all = c.args.entries in
    let is : rest ≡ entry ∷ behind = search rules in
    record {
      can_next = tt;
      is_finite = tt;
      told = told_both (past_of old) (λ now. Listed (volume_view old).layout (parts_of (volume_view old) now) (held c.args.out.now) (held c.loop-entry.out) rest all)
          (λ now. Does (piece_verdict (entry_text (volume_view old).layout (parts_of (volume_view old) now) (without_place entry))) (Ok tt) (held c.loop-entry.out) (held c.put_entry.new.out))
          (λ now. Listed (volume_view old).layout (parts_of (volume_view old) now) (held c.args.out.now) (held c.put_entry.new.out) behind all)
          (λ now listed done. listed_more (volume_view old).layout (parts_of (volume_view old) now) (held c.args.out.now) (held c.loop-entry.out) (held c.put_entry.new.out) entry rest behind all is listed done)
          c.loop-entry.invariant.told
          (done_first old c.loop-entry.volume entry (Ok tt) (held c.loop-entry.out) (held c.put_entry.new.out) c.loop-entry.invariant.same c.in_ok-put_entry.ensures.does);
      same = search rules;
      later = search rules;
      failed = search rules;
      same_reference = search rules;
    }

pub returns-in_err-put_entry-clause-does : goal.returns-in_err-put_entry-clause-does
returns-in_err-put_entry-clause-does g c =
    let old = c.args.volume.now in
    let held = held_by g.O.Sink in
    let entry = entry_view c.in-Some.entry in
    let rest = c.loop-entry.entry-iterator in
    let behind = c.next.new.self in
    let all = c.args.entries in
    let halt = c.in_err-put_entry.field-0.0 in
    let given : c.from_residual.result ≡ Err halt = search rules in
    let is : rest ≡ entry ∷ behind = search rules in
    rw given
    (told_both (past_of old) (λ now. Listed (volume_view old).layout (parts_of (volume_view old) now) (held c.args.out.now) (held c.loop-entry.out) rest all)
    (λ now. Does (piece_verdict (entry_text (volume_view old).layout (parts_of (volume_view old) now) (without_place entry))) (Err halt) (held c.loop-entry.out) (held c.put_entry.new.out))
    (λ now. Does (lines_behind (volume_view old).layout (parts_of (volume_view old) now) (silent 0) (map without_place all)) (Err halt) (held c.args.out.now) (held c.put_entry.new.out))
    (λ now listed done. listed_ended (volume_view old).layout (parts_of (volume_view old) now) (held c.args.out.now) (held c.loop-entry.out) (held c.put_entry.new.out) entry rest behind all halt is listed done)
    c.loop-entry.invariant.told
    (done_first old c.loop-entry.volume entry (Err halt) (held c.loop-entry.out) (held c.put_entry.new.out) c.loop-entry.invariant.same c.in_err-put_entry.ensures.does))

pub returns-clause-does : goal.returns-clause-does
returns-clause-does g c =
    let old = c.args.volume.now in
    let held = held_by g.O.Sink in
    let rest = c.loop-entry.entry-iterator in
    let all = c.args.entries in
    let none : rest ≡ [] = search rules in
    told_map (past_of old) (λ now. Listed (volume_view old).layout (parts_of (volume_view old) now) (held c.args.out.now) (held c.loop-entry.out) rest all)
    (λ now. Does (lines_behind (volume_view old).layout (parts_of (volume_view old) now) (silent 0) (map without_place all)) (Ok tt) (held c.args.out.now) (held c.loop-entry.out))
    (λ now listed. listed_all (volume_view old).layout (parts_of (volume_view old) now) (held c.args.out.now) (held c.loop-entry.out) rest all none listed)
    c.loop-entry.invariant.told
