-- An installation is answered where each check passed, and a refusal is one of its checks'.
use Rattle.std.proofs.Common.{◌≡◌, ◌≤◌, ℕ, Bool, true, false, List, Option, Result, Ok, Err, refl, sym, ap, subst, ◌∙◌, arith}
use Rattle.lilo_model.specs.Checks.{◌>>=◌, require, with_fault}
use Rattle.lilo_model.specs.Disks.{Image, Machine, Span, DiskSector}
use Rattle.lilo_model.specs.Devices.{Device}
use Rattle.lilo_model.specs.Conf.{Config, conf_at}
use Rattle.lilo_model.specs.MinixLayout.{Inode}
use Rattle.lilo_model.specs.MinixParts.{Volume, ZoneFault, parts_of, volume_at}
use Rattle.lilo_model.specs.MinixFind as find
use Rattle.lilo_model.specs.MinixFind.{TreeFault, file_at}
use Rattle.lilo_model.specs.MinixNames.{names_in}
use Rattle.lilo_model.specs.MinixWalk.{Visit}
use Rattle.lilo_model.specs.MinixSurvey.{survey_of}
use Rattle.lilo_model.specs.Apart.{apart_checks}
use Rattle.lilo_model.specs.Settled.{OwnNames, is_foreign, own_names}
use Rattle.lilo_model.specs.Plan as plans
use Rattle.lilo_model.specs.Planned.{planned}
use Rattle.lilo_model.specs.PlanRefusal as faults
use Rattle.lilo_model.specs.PlanRefusal.{PlanFault, plan_status, file_checks, held_checks, address_checks, plan_at, own_places_check}
use Rattle.lilo_model.specs.Refusal as refusals
use Rattle.lilo_model.specs.Refusal.{Refusal, refusal_status}
use Rattle.lilo_model.specs.VolumeSearch as search
use Rattle.lilo_model.specs.VolumeSearch.{Located, VolumeFault, volume_place}
use Rattle.lilo_model.specs.ConfVerdict.{volume_refusal, path_refusal, file_on, place_at}
use Rattle.map_laws.proofs.Accepted.{both-pass, required, told-ok}
use Rattle.write_model.specs.Wish as rooms
use Rattle.install_laws.specs.InstallVerdict.{InstallRefusal, Reading, NotSound, NotApart, BadName, NoPlan, NoLink, NoRoom, Begun, Answer, boot_device, begun_by, may_settle, answer_of, install_checks, install_answer, install_status}
use Rattle.install_laws.specs.Answered.{IsAnswered, AnsweredLaw, RefusedLaw}

abbrev said : {A F : Type 0} → A → Result A F
said value = Ok value

abbrev refused : {A F : Type 0} → F → Result A F
refused fault = Err fault

-- the value of a check that passes
value-is : {A F : Type 0} → (found value : A) → said {A = A} {F = F} found ≡ said value → found ≡ value
value-is found value is = cc

-- what a plan's checks accept is what is planned
plan-is : (image : Image) (machine : Machine) (volume : Volume) (span : Span) (config : Config) (time : ℕ) (plan : plans.Plan) → plan_at image machine volume span config time ≡ Ok plan → planned image machine volume config time ≡ plan
unfolding plan_at
plan-is image machine volume span config time plan is =
    let all = planned image machine volume config time in
    let files = both-pass (file_checks image machine volume all) (λ a. held_checks image machine volume span all >>= λ b. address_checks machine all >>= λ c. Ok all) plan is in
    let helds = both-pass (held_checks image machine volume span all) (λ b. address_checks machine all >>= λ c. Ok all) plan files.2 in
    let addresses = both-pass (address_checks machine all) (λ c. Ok all) plan helds.2 in
    value-is all plan addresses.2

module _ (image : Image) (machine : Machine) (walk : Inode → List (Result Visit ZoneFault)) (room : OwnNames → plans.Plan → Result (List DiskSector) rooms.Refusal) (time : ℕ) (begun : Begun) (answer : Answer) where
  abbrev all : plans.Plan
  all = planned image machine begun.volume begun.config time

  pub answered : install_checks image machine walk room time begun ≡ Ok answer → IsAnswered image machine walk room time begun answer
  unfolding install_checks
  answered is =
      let survey = survey_of (record { super = begun.volume.layout; parts = parts_of begun.volume image; walk = walk }) in
      let apart = apart_checks image machine begun.volume begun.config begun.boot in
      let own = own_names (names_in begun.volume image) begun.config begun.boot (is_foreign (image begun.span.disk begun.span.start)) in
      let plan = plan_at image machine begun.volume begun.span begun.config time in
      let one = both-pass (with_fault NotSound survey) _ answer is in
      let two = both-pass (with_fault NotApart apart) _ answer one.2 in
      let three = both-pass (with_fault BadName own) _ answer two.2 in
      let four = both-pass (require (may_settle image machine begun.volume walk begun.span three.0.map) NoLink) _ answer three.2 in
      let five = both-pass (with_fault NoPlan plan) _ answer four.2 in
      let six = both-pass (with_fault NoRoom (room three.0 five.0)) _ answer five.2 in
      let seven = both-pass (with_fault NoPlan (own_places_check begun.config machine six.0)) _ answer six.2 in
      let planned_is : all ≡ five.0 = plan-is image machine begun.volume begun.span begun.config time five.0 (told-ok NoPlan plan five.0 five.1) in
      record {
        met = one.0;
        surveyed = told-ok NotSound survey one.0 one.1;
        apart = told-ok NotApart apart two.0 two.1;
        names = three.0;
        named = told-ok BadName own three.0 three.1;
        settles = required (may_settle image machine begun.volume walk begun.span three.0.map) NoLink four.1;
        plan = told-ok NoPlan plan five.0 five.1 ∙ ap Ok (sym planned_is);
        places = six.0;
        chosen = ap (room three.0) planned_is ∙ told-ok NoRoom (room three.0 five.0) six.0 six.1;
        own = told-ok NoPlan (own_places_check begun.config machine six.0) seven.0 seven.1;
        is = sym (value-is (answer_of image machine begun one.0 five.0) answer seven.2) ∙ ap (answer_of image machine begun one.0) (sym planned_is);
      }

pub answered_law : AnsweredLaw
answered_law image machine walk room time begun answer is = answered image machine walk room time begun answer is

-- ---- refusals

not-err : {A F : Type 0} → {value : A} → {fault : F} → said {A = A} {F = F} value ≡ refused fault → ⊥
not-err is = cc

-- the fault of a check that refuses
fault-is : {A F : Type 0} → (found fault : F) → refused {A = A} {F = F} found ≡ refused fault → found ≡ fault
fault-is found fault is = cc

-- one of two checks refuses
one-refuses : {A B F : Type 0} → (P : F → Type 0) (check : Result A F) (next : A → Result B F) (fault : F) → (check >>= next) ≡ Err fault → (check ≡ Err fault → P fault) → ((value : A) → next value ≡ Err fault → P fault) → P fault
one-refuses P (Ok value) next fault is here after = after value is
one-refuses P (Err found) next fault is here after = here (ap Err (fault-is found fault is))

-- a check's fault is reported as another
told-as : {A F G : Type 0} → (P : G → Type 0) (told : F → G) (check : Result A F) (fault : G) → with_fault told check ≡ Err fault → ((found : F) → P (told found)) → P fault
told-as P told (Ok value) fault is each = absurd (not-err is)
told-as P told (Err found) fault is each = subst P (fault-is (told found) fault is) (each found)

abbrev IsRead : Refusal → Type 0
IsRead refusal = (2 ≤ refusal_status refusal) × (refusal_status refusal ≤ 3)

volume-read : (fault : VolumeFault) → IsRead (volume_refusal fault)
volume-read search.NoVolume = (omega arith, omega arith)
volume-read (search.Place fault) = (omega arith, omega arith)

path-read : (path : List ℕ) (fault : TreeFault) → IsRead (path_refusal path fault)
path-read path (find.NotFound position) = (omega arith, omega arith)
path-read path (find.Zone fault) = (omega arith, omega arith)
path-read path (find.NotDirectory position) = (omega arith, omega arith)
path-read path find.NotFile = (omega arith, omega arith)
path-read path find.TooManyLinks = (omega arith, omega arith)
path-read path (find.BadEntry place) = (omega arith, omega arith)
path-read path find.PathTooLong = (omega arith, omega arith)

file-read : (image : Image) (span : Span) (path : List ℕ) (refusal : Refusal) → file_on image span path ≡ Err refusal → IsRead refusal
unfolding file_on
file-read image span path refusal is =
    one-refuses IsRead (with_fault (λ fault. refusals.Layout) (volume_at image span)) (λ volume. with_fault (path_refusal path) (file_at volume.layout (parts_of volume image) path)) refusal is
    (λ is. told-as IsRead (λ fault. refusals.Layout) (volume_at image span) refusal is (λ fault. (omega arith, omega arith)))
    (λ volume is. told-as IsRead (path_refusal path) (file_at volume.layout (parts_of volume image) path) refusal is (path-read path))

begun-read : (image : Image) (machine : Machine) (root : Option Device) (path : List ℕ) (refusal : Refusal) → begun_by image machine root path ≡ Err refusal → IsRead refusal
unfolding begun_by
begun-read image machine root path refusal is =
    one-refuses IsRead (with_fault volume_refusal (volume_place image machine root)) _ refusal is
    (λ is. told-as IsRead volume_refusal (volume_place image machine root) refusal is volume-read)
    (λ place is. one-refuses IsRead (file_on image place.span path) _ refusal is (file-read image place.span path refusal)
    (λ text is. one-refuses IsRead (with_fault refusals.Config (conf_at text)) _ refusal is
    (λ is. told-as IsRead refusals.Config (conf_at text) refusal is (λ fault. (omega arith, omega arith)))
    (λ config is. one-refuses IsRead (with_fault refusals.Device (place_at image machine (boot_device config place.device))) _ refusal is
    (λ is. told-as IsRead refusals.Device (place_at image machine (boot_device config place.device)) refusal is (λ fault. (omega arith, omega arith)))
    (λ span is. one-refuses IsRead (with_fault (λ fault. refusals.Layout) (volume_at image place.span)) _ refusal is
    (λ is. told-as IsRead (λ fault. refusals.Layout) (volume_at image place.span) refusal is (λ fault. (omega arith, omega arith)))
    (λ volume is. absurd (not-err is))))))

abbrev IsRefusal : InstallRefusal → Type 0
IsRefusal refusal = (2 ≤ install_status refusal) × (install_status refusal ≤ 5)

plan-refusal : (fault : PlanFault) → IsRefusal (NoPlan fault)
plan-refusal (faults.Missing text) = (omega arith, omega arith)
plan-refusal faults.NoImagesLeft = (omega arith, omega arith)
plan-refusal (faults.Header path fault) = (omega arith, omega arith)
plan-refusal (faults.Address which fault) = (omega arith, omega arith)
plan-refusal (faults.TooManySlots which slots) = (omega arith, omega arith)
plan-refusal (faults.GeometryDiffers which have) = (omega arith, omega arith)
plan-refusal (faults.OtherIsBoot path) = (omega arith, omega arith)
plan-refusal (faults.NoSignature path) = (omega arith, omega arith)
plan-refusal (faults.MessageTooLong size) = (omega arith, omega arith)
plan-refusal (faults.Table fault) = (omega arith, omega arith)
plan-refusal (faults.Tree path fault) = (omega arith, omega arith)

required-as : {F : Type 0} → (P : F → Type 0) (test : Bool) (fault refusal : F) → require test fault ≡ Err refusal → P fault → P refusal
required-as P true fault refusal is holds = absurd (not-err is)
required-as P false fault refusal is holds = subst P (fault-is fault refusal is) holds

checks-refuse : (image : Image) (machine : Machine) (walk : Inode → List (Result Visit ZoneFault)) (room : OwnNames → plans.Plan → Result (List DiskSector) rooms.Refusal) (time : ℕ) (begun : Begun) (refusal : InstallRefusal)
    → install_checks image machine walk room time begun ≡ Err refusal → IsRefusal refusal
unfolding install_checks
checks-refuse image machine walk room time begun refusal is =
    let survey = survey_of (record { super = begun.volume.layout; parts = parts_of begun.volume image; walk = walk }) in
    let apart = apart_checks image machine begun.volume begun.config begun.boot in
    let own = own_names (names_in begun.volume image) begun.config begun.boot (is_foreign (image begun.span.disk begun.span.start)) in
    let plan = plan_at image machine begun.volume begun.span begun.config time in
    one-refuses IsRefusal (with_fault NotSound survey) _ refusal is
    (λ is. told-as IsRefusal NotSound survey refusal is (λ fault. (omega arith, omega arith)))
    (λ met is. one-refuses IsRefusal (with_fault NotApart apart) _ refusal is
    (λ is. told-as IsRefusal NotApart apart refusal is (λ fault. (omega arith, omega arith)))
    (λ a is. one-refuses IsRefusal (with_fault BadName own) _ refusal is
    (λ is. told-as IsRefusal BadName own refusal is (λ fault. (omega arith, omega arith)))
    (λ names is. one-refuses IsRefusal (require (may_settle image machine begun.volume walk begun.span names.map) NoLink) _ refusal is
    (λ is. required-as IsRefusal (may_settle image machine begun.volume walk begun.span names.map) NoLink refusal is (omega arith, omega arith))
    (λ b is. one-refuses IsRefusal (with_fault NoPlan plan) _ refusal is
    (λ is. told-as IsRefusal NoPlan plan refusal is plan-refusal)
    (λ plan is. one-refuses IsRefusal (with_fault NoRoom (room names plan)) _ refusal is
    (λ is. told-as IsRefusal NoRoom (room names plan) refusal is (λ fault. (omega arith, omega arith)))
    (λ places is. one-refuses IsRefusal (with_fault NoPlan (own_places_check begun.config machine places)) _ refusal is
    (λ is. told-as IsRefusal NoPlan (own_places_check begun.config machine places) refusal is plan-refusal)
    (λ c is. absurd (not-err is))))))))

pub refused_law : RefusedLaw
unfolding install_answer
refused_law image machine root path room time refusal is =
    one-refuses IsRefusal (with_fault Reading (begun_by image machine root path)) _ refusal is
    (λ is. told-reading (begun_by image machine root path) refl is)
    (λ begun is. checks-refuse image machine (Rattle.lilo_model.specs.MinixWalk.visits begun.volume.layout (parts_of begun.volume image)) (room begun) time begun refusal is)
  where
    told-reading : (read : Result Begun Refusal) → begun_by image machine root path ≡ read → with_fault Reading read ≡ refused {A = Begun} refusal → IsRefusal refusal
    told-reading (Ok begun) is none = absurd (not-err none)
    told-reading (Err found) is none =
        let both = begun-read image machine root path found is in
        let most = both.1 in
        subst IsRefusal (fault-is (Reading found) refusal none) (both.0, omega (arith, most))
