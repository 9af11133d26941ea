-- One place more.
use Rattle.std.proofs.Common.{rules, ◌≡◌, ◌+◌, ◌*◌, ◌/◌, ◌%◌, ℕ, List, [], ◌∷◌, ◌++◌, map, slice_index, sym, ◌∙◌, ap, arith}
use Rattle.std.specs.List.{range_with_len}
use Rattle.std.proofs.lemmas.List.{map-append}
use Rattle.std.proofs.lemmas.List.FromFn.{map-range_with_len_more}
use Rattle.lilo_model.specs.Disks as disks
use Rattle.minix_zones.specs.View.{span_view}
use Rattle.slot_lists.specs.declared.slots.DiskSector.{DiskSector}
use Rattle.slot_lists.specs.Made.{place_view}
use Rattle.install_room.proofs.places.places_of.Goals as goal

pub loop-index-preserved : goal.loop-index-preserved
loop-index-preserved c =
    let blocks = c.args.blocks.now in
    let span = span_view c.args.span in
    let index = c.loop-index.index in
    let F : ℕ → disks.DiskSector = λ at. record { disk = span.disk; sector = span.start + (2 * slice_index blocks (at / 2) + at % 2) } in
    let zero : 0 + index ≡ index = omega arith in
    let more : map F (range_with_len 0 (index + 1)) ≡ map F (range_with_len 0 index) ++ F index ∷ [] = map-range_with_len_more F 0 index index zero in
    let at : span.start + 2 * slice_index blocks (index / 2) + index % 2 ≡ span.start + (2 * slice_index blocks (index / 2) + index % 2) = omega arith in
    let One : ℕ → List DiskSector = λ sector. record { disk = c.args.span.disk; sector = sector } ∷ [] in
    let pushed : c.push.new.self.items ≡ c.loop-index.places.items ++ One (span.start + 2 * slice_index blocks (index / 2) + index % 2) = search rules in
    let D : ℕ → List disks.DiskSector = λ sector. record { disk = span.disk; sector = sector } ∷ [] in
    record {
      places = ap (map place_view) pushed
          ∙ (map-append place_view c.loop-index.places.items (One (span.start + 2 * slice_index blocks (index / 2) + index % 2))
          ∙ (ap (λ (others : List disks.DiskSector). others ++ D (span.start + 2 * slice_index blocks (index / 2) + index % 2)) c.loop-index.invariant.places
          ∙ (ap (λ (sector : ℕ). map F (range_with_len 0 index) ++ D sector) at
          ∙ sym more)));
    }
