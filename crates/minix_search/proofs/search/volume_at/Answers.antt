-- One partition ends the search where it holds a volume.
use Rattle.std.proofs.Common.{rules}
use Rattle.lilo_model.specs.VolumeSearch.{searched_partitions, ends_search}
use Rattle.minix_search.proofs.search.volume_at.Goals as goal

pub returns-then-not-branch-clause-volume : goal.returns-then-not-branch-clause-volume
unfolding searched_partitions ends_search
returns-then-not-branch-clause-volume g c = search rules

pub returns-clause-volume : goal.returns-clause-volume
unfolding searched_partitions ends_search
returns-clause-volume g c = search rules
