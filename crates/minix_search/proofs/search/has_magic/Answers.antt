-- A sector has a magic number exactly where the superblock isn't refused for want of one.
use Rattle.std.proofs.Common.{rules}
use Rattle.lilo_model.specs.MinixLayout.{super_at, super_in, super_checks}
use Rattle.lilo_model.specs.VolumeSearch.{has_magic}
use Rattle.minix_search.proofs.search.has_magic.Goals as goal

pub returns : goal.returns
unfolding has_magic super_at super_in super_checks
returns c = search rules
