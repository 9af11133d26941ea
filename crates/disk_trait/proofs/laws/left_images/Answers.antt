use Rattle.disk_trait.proofs.LeftLemmas.{left_images_law}
use Rattle.disk_trait.proofs.laws.left_images.Goals as goal

pub returns : goal.returns
returns c = left_images_law
