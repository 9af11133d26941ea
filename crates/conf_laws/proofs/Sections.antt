-- Each section that isn't refused may be in a configuration.
use Rattle.std.proofs.Common.{◌≡◌, ℕ, ◌≤◌, Bool, true, false, List, [], ◌∷◌, length, Some, None, Option, inl, inr, refl, arith}
use Rattle.std.specs.Prelude.{IsTrue, IsSome, IfSome, is_some, is_none, unwrap_or, nat_lt, ◌⊎◌}
use Rattle.std.proofs.lemmas.Bool.{ltb-false}
use Rattle.lilo_model.specs.ConfOptions as options
use Rattle.lilo_model.specs.ConfOptions.{Opt, Part, GlobalPart, ImagePart, OtherPart, takes_of, opens, places_of, stands_in, is_of_disk, is_of_name, opt_number}
use Rattle.lilo_model.specs.Devices.{Device, IsDevice, device_at}
use Rattle.lilo_model.specs.VideoMode.{video_mode}
use Rattle.lilo_model.specs.ConfValues.{is_name, is_shown, name_limit, last_part, root_at}
use Rattle.lilo_model.specs.ConfRefusal.{ConfReason}
use Rattle.lilo_model.specs.ConfSettings.{Setting}
use Rattle.lilo_model.specs.ConfJudge.{opened_part, part_kind, takes_nothing}
use Rattle.lilo_model.specs.Conf.{Unsaid, value_of, effect_value, section_path, section_label, label_reason, is_locked_fallback, is_open_restricted, section_refusal, mount_of, effect_mount, section_device, section_of, conf_limit}
use Rattle.lilo_model.specs.ConfLawful.{IsPath, IsLineText, IsEntryName, IsImageSection, IsOtherSection, IsOfKind, IsLawfulSection}
use Rattle.conf_laws.proofs.Settings.{AllStand, is_plain}
use Rattle.conf_laws.proofs.Values.{device_at-device, root_at-range, video_mode-range}
use Rattle.conf_laws.proofs.Effects.{fits-path, fits-line, fits-name, fits-shown, fits-device, if_some, if_meant, opening-cases, opening-value, own-given, effect-given, effect-none, own-none, own-absent}
use Rattle.conf_laws.proofs.Parts.{Opened}

-- what isn't refused of a section as a whole
pub record IsWhole (front section : List Setting) : Type 0 where
  pub label : label_reason section ≡ None
  pub unlocked : is_locked_fallback front section ≡ false
  pub closed : is_open_restricted front section ≡ false

pub section_refusal-none : (front section : List Setting) → section_refusal front section ≡ None → IsWhole front section
unfolding section_refusal
section_refusal-none front section none = by _ refl
  where
    third : (open' : Bool) → is_open_restricted front section ≡ open' → label_reason section ≡ None → is_locked_fallback front section ≡ false → IsWhole front section
    third true is label unlocked = let e = rw (label, unlocked, is) at none in absurd (cc)
    third false is label unlocked = record { label = label; unlocked = unlocked; closed = is }

    second : (locked : Bool) → is_locked_fallback front section ≡ locked → label_reason section ≡ None → IsWhole front section
    second true is label = let e = rw (label, is) at none in absurd (cc)
    second false is label = third _ refl label is

    by : (reason : Option ConfReason) → label_reason section ≡ reason → IsWhole front section
    by (Some reason) is = let e = rw is at none in absurd (cc)
    by None is = second _ refl is

no-fallback : (found : Option (List ℕ)) → is_some found ≡ false → found ≡ None
no-fallback None none = refl
no-fallback (Some text) none = absurd (cc)

a-password : (found : Option (List ℕ)) → is_none found ≡ false → IsSome found
a-password None none = absurd (cc)
a-password (Some text) none = refl

module _ (size : ℕ) (front : List Setting) (first : Setting) (rest : List Setting) (few : size ≤ conf_limit) (stand : AllStand size [] front) (opened : Opened size first rest) where
  effect-path : (one : Opt) → is_plain one ≡ true → takes_of one ≡ options.APath → IfSome (effect_value one front (first ∷ rest)) IsPath
  effect-path one plain takes = if_some IsPath _ (λ text is. let given = effect-given size front first rest stand opened one text plain is in fits-path one text takes given.fits (omega (arith, few, given.small)))

  effect-line : (one : Opt) → is_plain one ≡ true → takes_of one ≡ options.AText → IfSome (effect_value one front (first ∷ rest)) IsLineText
  effect-line one plain takes = if_some IsLineText _ (λ text is. let given = effect-given size front first rest stand opened one text plain is in fits-line one text takes given.fits (omega (arith, few, given.small)))

  own-line : (one : Opt) → is_plain one ≡ true → takes_of one ≡ options.AText → IfSome (value_of one (first ∷ rest)) IsLineText
  own-line one plain takes = if_some IsLineText _ (λ text is. let given = own-given size front first rest stand opened one text plain is in fits-line one text takes given.fits (omega (arith, few, given.small)))

  effect-shown : (most : ℕ) (one : Opt) → is_plain one ≡ true → takes_of one ≡ options.AShown most → IfSome (effect_value one front (first ∷ rest)) (λ text. IsTrue (is_shown most text))
  effect-shown most one plain takes = if_some (λ text. IsTrue (is_shown most text)) _ (λ text is. fits-shown most one text takes (effect-given size front first rest stand opened one text plain is).fits)

  -- a section of a kernel
  image-section : first.option ≡ options.Image → IsImageSection (section_of front (first ∷ rest))
  unfolding section_of takes_of opens is_of_disk opt_number takes_nothing part_kind opened_part stands_in places_of
  image-section image =
      let opening = opening-value first rest opened.fine (rw image refl) in
      let takes : takes_of first.option ≡ options.APath = rw image refl in
      record {
        path = fits-path first.option (section_path (first ∷ rest)) takes opening.fits (omega (arith, few, opened.small (section_path (first ∷ rest)) opening.given));
        initrd = effect-path options.Initrd refl refl;
        append = effect-line options.Append refl refl;
        literal = own-line options.Literal refl refl;
        root = if_meant (λ root. root ≤ 65535) root_at (effect_value options.Root front (first ∷ rest)) (λ text root is means. root_at-range text root means);
        vga = if_meant (λ vga. vga ≤ 65535) video_mode (effect_value options.Vga front (first ∷ rest)) (λ text vga is means. video_mode-range text vga means);
        table = rw (own-none size front first rest stand opened options.Table refl (rw image refl)) refl;
      }

  -- how a kernel is to mount its root isn't said where that isn't allowed
  mount-unsaid : stands_in (part_kind (first ∷ rest)) options.ReadOnly ≡ false → stands_in (part_kind (first ∷ rest)) options.ReadWrite ≡ false → effect_mount front (first ∷ rest) ≡ Unsaid
  unfolding effect_mount mount_of opens is_of_disk opt_number
  mount-unsaid misplaced misplaced' =
      rw (misplaced, own-absent size front first rest stand opened options.ReadOnly refl misplaced, own-absent size front first rest stand opened options.ReadWrite refl misplaced') refl

  -- a section of another system
  other-section : (device : Device) → first.option ≡ options.OtherDevice → device_at (section_path (first ∷ rest)) ≡ Some device
      → IsOtherSection (section_of front (first ∷ rest)) device
  unfolding section_of takes_of opens is_of_disk opt_number takes_nothing part_kind opened_part stands_in places_of
  other-section device other is =
      let named = device_at-device (section_path (first ∷ rest)) device is in
      record {
        named = named.0;
        name = named.1;
        table = if_meant IsDevice device_at (value_of options.Table (first ∷ rest)) (λ text one given means. (device_at-device text one means).0);
        initrd = effect-none size front first rest stand opened options.Initrd refl (rw other refl);
        append = effect-none size front first rest stand opened options.Append refl (rw other refl);
        literal = own-none size front first rest stand opened options.Literal refl (rw other refl);
        root = rw (effect-none size front first rest stand opened options.Root refl (rw other refl)) refl;
        vga = rw (effect-none size front first rest stand opened options.Vga refl (rw other refl)) refl;
        mount = mount-unsaid (rw other refl) (rw other refl);
      }

  device-image : first.option ≡ options.Image → section_device (first ∷ rest) ≡ None
  unfolding section_device part_kind opened_part
  device-image image = rw image refl

  device-other : first.option ≡ options.OtherDevice → section_device (first ∷ rest) ≡ device_at (section_path (first ∷ rest))
  unfolding section_device part_kind opened_part
  device-other other = rw other refl

  -- what it has by its kind
  of-kind : IsOfKind (section_of front (first ∷ rest)) (section_device (first ∷ rest))
  unfolding takes_of takes_nothing
  of-kind = by (opening-cases first.option opened.opening)
    where
      by : (first.option ≡ options.Image) ⊎ (first.option ≡ options.OtherDevice) → IsOfKind (section_of front (first ∷ rest)) (section_device (first ∷ rest))
      by (inl image) = rw (device-image image) (image-section image)
      by (inr other) =
          let opening = opening-value first rest opened.fine (rw other refl) in
          let known = fits-device first.option (section_path (first ∷ rest)) (rw other refl) opening.fits in
          rw (device-other other) (found _ refl known other)
        where
          found : (device : Option Device) → device_at (section_path (first ∷ rest)) ≡ device → is_some device ≡ true → first.option ≡ options.OtherDevice
              → IsOfKind (section_of front (first ∷ rest)) device
          found None is some other = absurd (cc)
          found (Some device) is some other = other-section device other is

  -- its name
  label-name : label_reason (first ∷ rest) ≡ None → IsEntryName (section_label (first ∷ rest))
  unfolding label_reason section_label opens is_of_disk opt_number takes_of is_of_name
  label-name none = by _ refl
    where
      by : (label : Option (List ℕ)) → value_of options.Label (first ∷ rest) ≡ label → IsEntryName (unwrap_or label (last_part (section_path (first ∷ rest))))
      by (Some text) is = fits-name options.Label text refl refl (own-given size front first rest stand opened options.Label text refl is).fits
      by None is = good _ _ refl refl
        where
          good : (good' long : Bool) → is_name (last_part (section_path (first ∷ rest))) ≡ good' → nat_lt name_limit (length (last_part (section_path (first ∷ rest)))) ≡ long
              → IsEntryName (last_part (section_path (first ∷ rest)))
          good false long is' e = let f = rw (is, is') at none in absurd (cc)
          good true true is' e = let f = rw (is, is', e) at none in absurd (cc)
          good true false is' e = record { name = is'; size = ltb-false name_limit (length (last_part (section_path (first ∷ rest)))) e }

  -- a section that isn't refused
  pub lawful-section : IsWhole front (first ∷ rest) → IsLawfulSection (section_of front (first ∷ rest))
  unfolding section_of opens is_of_disk opt_number takes_of is_of_name is_locked_fallback is_open_restricted
  lawful-section whole = record {
    kind = of-kind;
    label = label-name whole.label;
    alias = if_some IsEntryName (value_of options.Alias (first ∷ rest)) (λ text is. fits-name options.Alias text refl refl (own-given size front first rest stand opened options.Alias text refl is).fits);
    password = effect-shown 31 options.Password refl refl;
    fallback = effect-shown 255 options.Fallback refl refl;
    lock = λ locked. no-fallback (effect_value options.Fallback front (first ∷ rest)) (rw locked at whole.unlocked);
    restricted = λ restricted. a-password (effect_value options.Password front (first ∷ rest)) (rw restricted at whole.closed);
  }
