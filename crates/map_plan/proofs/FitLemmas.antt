-- What a plan asks of a kernel is what a layout of memory asks, but for the memory's size.
use Rattle.std.proofs.Common.{◌≡◌, ℕ, Bool, true, false, Option, Some, None, if◌then◌else◌, Result, Ok, Err, refl, sym, ap, subst, ◌∙◌}
use Rattle.lilo_model.specs.Checks.{◌>>=◌, require}
use Rattle.map_plan.specs.Starts.{is_room}
use Rattle.lilo_model.specs.Header.{Header, Region, Layout, SetupFault, LowTooLarge, NoInitrd, NoRoom, LineTooLong, fit_checks, plan_memory, initrd_region}

-- what is asked of the initrd's place is the memory's size alone
region-room : (header : Header) (len memory : ℕ) (initrd : Option ℕ) (fault : SetupFault) → initrd_region header len memory initrd ≡ Err fault → is_room fault ≡ true
region-room header len memory None fault is = cc
region-room header len memory (Some size) fault is = by _ _ _ _ is
  where
    by : {A : Type 0} (fits : Bool) (need have : ℕ) (made : A) → (require fits (NoRoom need have) >>= λ a. Ok made) ≡ Err fault → is_room fault ≡ true
    by true need have made is = cc
    by false need have made is =
        let same : NoRoom need have ≡ fault = cc in
        ap is_room (sym same)

-- so it is after the checks that don't know the memory
rest-room : (fits : Bool) (need have : ℕ) (region : Result (Option Region) SetupFault) (made : Option Region → Layout) (fault : SetupFault)
    → ((fault : SetupFault) → region ≡ Err fault → is_room fault ≡ true)
    → (require fits (NoRoom need have) >>= λ b. region >>= λ region. Ok (made region)) ≡ Err fault → is_room fault ≡ true
rest-room true need have (Ok region) made fault room is = cc
rest-room true need have (Err other) made fault room is =
    let same : other ≡ fault = cc in
    subst (λ fault. is_room fault ≡ true) same (room other refl)
rest-room false need have region made fault room is =
    let same : NoRoom need have ≡ fault = cc in
    ap is_room (sym same)

-- and those refuse for no memory's size
checks-plain : (header : Header) (len : ℕ) (initrd : Option ℕ) (line : ℕ) (fault : SetupFault) → fit_checks header len initrd line ≡ Err fault → is_room fault ≡ false
unfolding fit_checks
checks-plain header len initrd line fault is = by _ _ _ _ _ is
  where
    by : (low taken short : Bool) (size bytes : ℕ)
        → (require low (LowTooLarge size) >>= λ a. require taken NoInitrd >>= λ b. require short (LineTooLong bytes)) ≡ Err fault → is_room fault ≡ false
    by false taken short size bytes is =
        let same : LowTooLarge size ≡ fault = cc in
        ap is_room (sym same)
    by true false short size bytes is =
        let same : NoInitrd ≡ fault = cc in
        ap is_room (sym same)
    by true true false size bytes is =
        let same : LineTooLong bytes ≡ fault = cc in
        ap is_room (sym same)
    by true true true size bytes is = cc

module _ (header : Header) (len : ℕ) (initrd : Option ℕ) (line memory : ℕ) where
  -- what has a layout passes
  pub plan-fits : (layout : Layout) → plan_memory header len initrd line memory ≡ Ok layout → fit_checks header len initrd line ≡ Ok tt
  unfolding plan_memory
  plan-fits layout is = by _ layout (fit_checks header len initrd line) is
    where
      by : {A : Type 0} (rest : Result A SetupFault) (made : A) (first : Result (Unit {0}) SetupFault) → (first >>= λ a. rest) ≡ Ok made → first ≡ Ok tt
      by rest made (Ok done) is = refl
      by rest made (Err fault) is = cc

  -- so does what is refused for the memory's size, and what is refused otherwise is refused for that
  pub plan-refused : (fault : SetupFault) (room : Bool) → is_room fault ≡ room → plan_memory header len initrd line memory ≡ Err fault
      → fit_checks header len initrd line ≡ (if room then Ok tt else Err fault)
  unfolding plan_memory
  plan-refused fault room kind is =
      by (fit_checks header len initrd line) refl _ is
      (rest-room _ _ _ (initrd_region header len memory initrd) _ fault (region-room header len memory initrd))
    where
      by : {A : Type 0} (first : Result (Unit {0}) SetupFault) → fit_checks header len initrd line ≡ first → (rest : Result A SetupFault)
          → (first >>= λ a. rest) ≡ Err fault → (rest ≡ Err fault → is_room fault ≡ true)
          → first ≡ (if room then Ok tt else Err fault)
      by (Ok done) at rest is rooms =
          let yes : room ≡ true = sym kind ∙ rooms is in
          rw yes refl
      by (Err other) at rest is rooms =
          let same : other ≡ fault = cc in
          let no : room ≡ false = sym kind ∙ checks-plain header len initrd line fault (at ∙ ap Err same) in
          rw no (ap Err same)
