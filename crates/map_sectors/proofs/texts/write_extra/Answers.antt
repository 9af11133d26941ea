-- A fallback has 255 bytes at most, and a password 31.
use Rattle.std.proofs.Common.{[], length, ap, ◌∙◌, arith}
use Rattle.std.specs.Prelude.{unwrap_or}
use Rattle.lilo_model.specs.Options.{extra_bytes}
use Rattle.map_sectors.proofs.TextLemmas.{few-bytes}
use Rattle.map_sectors.proofs.texts.write_extra.Goals as goal

pub returns : goal.returns
returns c lawful =
    let section = c.args.section.now in
    let fallback-few = few-bytes 255 section.fallback lawful.fallback in
    let password-few = few-bytes 31 section.password lawful.password in
    let fallback-long = ap length c.text_of.ensures in
    let password-long = ap length c.text_of-2.ensures in
    let fallback = c.copy_of-fallback.ensures (omega (arith, fallback-few, fallback-long)) ∙ c.text_of.ensures in
    let password = c.copy_of-password.ensures (omega (arith, password-few, password-long)) ∙ c.text_of-2.ensures in
    c.write_into.ensures.bytes
    ∙ ap (λ text. extra_bytes (record { fallback = text; password = c.copy_of-password.result.items })) fallback
    ∙ ap (λ text. extra_bytes (record { fallback = unwrap_or section.fallback []; password = text })) password
