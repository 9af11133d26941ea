-- The room is the model's.
use Rattle.std.proofs.Common.{rules, ◌≡◌, ◌≤◌, ◌<◌, ◌+◌, ◌*◌, ◌^◌, ℕ, List, length, map, All, Ok, Err, refl, sym, ◌∙◌, ap, subst, subst₂, arith}
use Rattle.disk_trait.specs.Past.{Image}
use Rattle.disk_trait.proofs.MomentLemmas.{told_now}
use Rattle.disk_trait.proofs.ToldLemmas.{told_all, told_both, told_map}
use Rattle.disk_trait.specs.declared.disks.Span.{Span}
use Rattle.lilo_model.specs.MinixParts.{parts_of}
use Rattle.lilo_model.specs.MinixParts as parts
use Rattle.minix_steps.proofs.BitmapLemmas.{fits}
use Rattle.minix_steps.specs.Written.{parts_now}
use Rattle.minix_choice.specs.View.{taken_view, Refuses}
use Rattle.minix_choice.specs.declared.write_fault.WriteFault.TheVariants as faults
use Rattle.minix_zones.specs.View.{span_view}
use Rattle.minix_zones.specs.Volume.{volume_view, past_of}
use Rattle.minix_zones.proofs.SameLemmas.{told_back}
use Rattle.slot_lists.specs.Made.{place_view}
use Rattle.write_model.specs.Choice.{choose}
use Rattle.write_model.specs.Wish.{Taken}
use Rattle.install_laws.specs.InstallVerdict.{sectors_of_blocks}
use Rattle.install_room.specs.Names.{own_wish, backup_of}
use Rattle.install_room.specs.Room.{GivesFor, first_of}
use Rattle.install_room.proofs.BlockLemmas.{enough_blocks, blocks_lie}
use Rattle.install_room.proofs.FreeLemmas.{told_stays, room_free}
use Rattle.install_room.proofs.KeptLemmas.{kept_first, backup_avoids, map_avoids}
use Rattle.install_room.proofs.RoomOfLemmas.{backup_refused, map_refused, room_found}
use Rattle.install_room.proofs.room.find_room.Goals as goal

pub returns-in_err-backup-clause-room : goal.returns-in_err-backup-clause-room
returns-in_err-backup-clause-room g c =
    let volume = c.args.volume.now in
    let fault = c.in_err-backup.field-0.0 in
    let is : c.from_residual-in_err-backup.result ≡ Err fault = search rules in
    rw is
    (told_map (past_of volume) _ _ (λ now gives names places keeps are.
    backup_refused (volume_view volume) (parts_of (volume_view volume) now) places names c.args.own.now c.args.wish are c.requires.fits c.in_ok-taken.taken c.choose_backup.new.taken
    (c.in_ok-taken.ensures.taken places keeps) fault gives) c.in_err-backup.ensures.choice)

pub returns-in_err-map-clause-room : goal.returns-in_err-map-clause-room
returns-in_err-map-clause-room g c =
    let volume = c.args.volume.now in
    let mid = c.choose_backup.new.volume in
    let new = c.choose_backup.new.taken in
    let wish = own_wish c.args.own.now.map.tilde (512 * c.args.wish.sectors) c.args.wish.time in
    let fault = c.in_err-map.field-0.0 in
    let is : c.from_residual-in_err-map.result ≡ Err fault = search rules in
    let R : parts.Volume → Image → Type 0 = λ view now. Refuses fault (choose view.layout (parts_of view now) (taken_view new) wish) in
    rw is
    (told_both (past_of volume) _ _ _ (λ now one two names places keeps are.
    map_refused (volume_view volume) (parts_of (volume_view volume) now) places names c.args.own.now c.args.wish are c.requires.fits c.in_ok-taken.taken new
    (c.in_ok-taken.ensures.taken places keeps) c.in_ok-backup.backup one fault two)
    c.in_ok-backup.ensures.choice (told_back volume mid R c.in_ok-backup.ensures.same c.in_err-map.ensures.choice))

pub places_of-requires-clause-enough : goal.places_of-requires-clause-enough
places_of-requires-clause-enough g c =
    let map = c.in_ok-map.map in
    let E : List ℕ → Type 0 = λ blocks. c.args.wish.sectors ≤ 2 * length blocks in
    subst E (sym c.blocks-2.ensures)
    (enough_blocks c.choose_backup.new.volume.layout c.choose_backup.new.volume.span map c.in_ok-map.ensures.suits c.args.wish.sectors c.in_ok-map.ensures.made.size)

pub places_of-requires-clause-fits : goal.places_of-requires-clause-fits
places_of-requires-clause-fits g c =
    let map = c.in_ok-map.map in
    let mid = c.choose_backup.new.volume in
    let new = c.choose_for.new.volume in
    let span-is : c.span.result ≡ mid.span = c.span.ensures.value ∙ c.in_ok-map.ensures.same.same_span in
    let F : Span → List ℕ → Type 0 = λ span blocks. All (λ zone. span.start + 2 * zone + 1 < 2 ^ 64) blocks in
    subst₂ F (sym span-is) (sym c.blocks-2.ensures) (blocks_lie mid.layout mid.span map c.in_ok-map.ensures.suits mid.whole mid.numbered)

pub returns-in_err-places-clause-room : goal.returns-in_err-places-clause-room
returns-in_err-places-clause-room g c =
    let is : c.from_residual-in_err-places.result ≡ Err faults.Memory = search rules in
    rw is (told_all (past_of c.args.volume.now) _ (λ now names places keeps are. tt))

pub returns-clause-room : goal.returns-clause-room
returns-clause-room g c =
    let volume = c.args.volume.now in
    let mid = c.choose_backup.new.volume in
    let new = c.choose_backup.new.taken in
    let map' = c.in_ok-map.map in
    let sectors = c.args.wish.sectors in
    let wish = own_wish c.args.own.now.map.tilde (512 * sectors) c.args.wish.time in
    let R : parts.Volume → Image → Type 0 = λ view now. choose view.layout (parts_of view now) (taken_view new) wish ≡ Ok map'.choice in
    let span-is : c.span.result ≡ volume.span = c.span.ensures.value ∙ (c.in_ok-map.ensures.same.same_span ∙ c.in_ok-backup.ensures.same.same_span) in
    let lies : map place_view c.in_ok-places.places.items ≡ sectors_of_blocks (span_view volume.span) map'.choice.blocks sectors =
    c.in_ok-places.ensures
    ∙ (ap (λ (span : Span). sectors_of_blocks (span_view span) c.blocks-2.result.now sectors) span-is
    ∙ ap (λ (blocks : List ℕ). sectors_of_blocks (span_view volume.span) blocks sectors) c.blocks-2.ensures) in
    told_both (past_of volume) _ _ _ (λ now one two names places keeps are.
    room_found (volume_view volume) (parts_of (volume_view volume) now) places names c.args.own.now c.args.wish are c.requires.fits c.in_ok-taken.taken new
    (c.in_ok-taken.ensures.taken places keeps) c.in_ok-backup.backup one map'.choice (map place_view c.in_ok-places.places.items) two lies)
    c.in_ok-backup.ensures.choice (told_back volume mid R c.in_ok-backup.ensures.same c.in_ok-map.ensures.choice)

pub returns-clause-places : goal.returns-clause-places
returns-clause-places g c =
    let volume = c.args.volume.now in
    let map' = c.in_ok-map.map in
    let sectors = c.args.wish.sectors in
    let span-is : c.span.result ≡ volume.span = c.span.ensures.value ∙ (c.in_ok-map.ensures.same.same_span ∙ c.in_ok-backup.ensures.same.same_span) in
    c.in_ok-places.ensures
    ∙ (ap (λ (span : Span). sectors_of_blocks (span_view span) c.blocks-2.result.now sectors) span-is
    ∙ ap (λ (blocks : List ℕ). sectors_of_blocks (span_view volume.span) blocks sectors) c.blocks-2.ensures)

pub returns-clause-made : goal.returns-clause-made
returns-clause-made g c = record { map = c.in_ok-map.ensures.made; backup = c.in_ok-backup.ensures.made }

pub returns-clause-whole : goal.returns-clause-whole
returns-clause-whole g c told =
    let stays = told_stays c.args.volume.now c.choose_backup.new.volume c.in_ok-backup.ensures.same told in
    record { map = c.in_ok-map.ensures.whole stays; backup = c.in_ok-backup.ensures.whole told }

pub returns-clause-free : goal.returns-clause-free
returns-clause-free g c places keeps =
    let first : Taken = first_of (volume_view c.args.volume.now) places c.args.wish.unsettled c.args.wish.forced c.args.own.now in
    room_free c.choose_backup.new.volume c.choose_for.new.volume c.in_ok-map.ensures.same c.in_ok-taken.taken first (c.in_ok-taken.ensures.taken places keeps) refl
    c.in_ok-map.map c.choose_for.new.taken c.in_ok-backup.backup c.choose_backup.new.taken c.in_ok-backup.ensures.taken
    c.in_ok-backup.ensures.free c.in_ok-backup.ensures.promises c.in_ok-map.ensures.free c.in_ok-map.ensures.promises

pub returns-clause-avoids : goal.returns-clause-avoids
returns-clause-avoids g c told places keeps =
    let volume = c.args.volume.now in
    let view : parts.Volume = volume_view volume in
    let mid = c.choose_backup.new.volume in
    let old = c.in_ok-taken.taken in
    let new = c.choose_backup.new.taken in
    let own = backup_of c.args.wish.forced c.args.own.now.backup in
    let wish = own_wish c.args.own.now.map.tilde (512 * c.args.wish.sectors) c.args.wish.time in
    let R : parts.Volume → Image → Type 0 = λ on image. choose on.layout (parts_of on image) (taken_view new) wish ≡ Ok c.in_ok-map.map.choice in
    let G : Image → Type 0 = λ image. GivesFor view.layout (parts_of view image) old new own c.args.wish.time (Ok c.in_ok-backup.backup) in
    let gives = told_now (past_of volume) G c.in_ok-backup.ensures.choice told in
    let chosen = told_now (past_of volume) (R view) (told_back volume mid R c.in_ok-backup.ensures.same c.in_ok-map.ensures.choice) told in
    let some : 0 < volume.layout.first = let behind = (fits view.layout volume.span.count volume.whole.passes).behind in omega (arith, behind) in
    let first = c.in_ok-taken.ensures.taken places keeps in
    let kept = kept_first view places view.layout (parts_now volume) some (taken_view old) (λ zone. ap (λ (t : Taken). t.has_zone zone) first) (ap (λ (t : Taken). t.promises) first) in
    record {
      map = map_avoids view places view.layout (parts_now volume) some old new c.args.wish.time kept own c.in_ok-backup.backup gives wish c.in_ok-map.map chosen;
      backup = backup_avoids view places view.layout (parts_now volume) some old new c.args.wish.time kept own c.in_ok-backup.backup gives;
    }
