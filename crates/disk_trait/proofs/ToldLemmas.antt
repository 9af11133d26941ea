-- Facts about what disks hold, where they report it.
use Rattle.std.proofs.Common.{Option, None, Some}
use Rattle.disk_trait.specs.Past.{Image, Past, now_of, Told}

pub told_map : (past : Option Past) (P Q : Image → Type 0) → ((now : Image) → P now → Q now) → Told past P → Told past Q
told_map None P Q f p = tt
told_map (Some past) P Q f p = f (now_of past) p

pub told_both :
    (past : Option Past) (P Q R : Image → Type 0) → ((now : Image) → P now → Q now → R now)
    → Told past P → Told past Q → Told past R
told_both None P Q R f p q = tt
told_both (Some past) P Q R f p q = f (now_of past) p q

pub told_all : (past : Option Past) (P : Image → Type 0) → ((now : Image) → P now) → Told past P
told_all None P f = tt
told_all (Some past) P f = f (now_of past)

pub told_three :
    (past : Option Past) (P Q R S : Image → Type 0) → ((now : Image) → P now → Q now → R now → S now)
    → Told past P → Told past Q → Told past R → Told past S
told_three None P Q R S f p q r = tt
told_three (Some past) P Q R S f p q r = f (now_of past) p q r
