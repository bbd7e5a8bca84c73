-- What each kind of move leaves of an end's final check, and a state that isn't Closed.
use Rattle.std.proofs.Common.{◌≡◌, ◌∙◌, ap, sym, refl, Bool, true, false, true≢false, if◌then◌else◌}
use Rattle.xenbus_state.specs.declared.state.BusState.{BusState}
use Rattle.xenbus_state.specs.declared.state.BusState.TheVariants as state
use Rattle.vbd_laws.specs.Waits.{Check, Awake, Stored, Fenced, Asleep, fences, looks, others, writes}

abbrev pub sleeps : Check → Bool
sleeps Asleep = true
sleeps c = false

abbrev pub is_fenced : Check → Bool
is_fenced Fenced = true
is_fenced c = false

-- what each kind of ask leaves
pub others_sleep : (c : Check) → sleeps (others c) ≡ sleeps c
others_sleep Asleep = refl
others_sleep c = refl

pub others_unfenced : (c : Check) → is_fenced (others c) ≡ false
others_unfenced Asleep = refl
others_unfenced c = refl

pub fences_sleep : (c : Check) → sleeps (fences c) ≡ sleeps c
fences_sleep Stored = refl
fences_sleep c = refl

pub writes_sleep : (event : Bool) (c : Check) → sleeps (writes event c) ≡ sleeps c
writes_sleep true Asleep = refl
writes_sleep true c = refl
writes_sleep false c = others_sleep c

pub stored_awake : (c : Check) → sleeps c ≡ false → writes true c ≡ Stored
stored_awake Asleep is = absurd (true≢false is)
stored_awake c is = refl

pub looks_awake : (c : Check) (same : Bool) → is_fenced c ≡ false → looks c same ≡ Awake
looks_awake Fenced same is = absurd (true≢false is)
looks_awake c same is = refl

-- an end that isn't asleep stays so at a read that isn't the last of its final check
pub reads_awake : (producer same : Bool) (c : Check) → sleeps c ≡ false → is_fenced c ≡ false → sleeps (if producer then looks c same else others c) ≡ false
reads_awake true same c awake unfenced = ap sleeps (looks_awake c same unfenced)
reads_awake false same c awake unfenced = others_sleep c ∙ awake

pub reads_unfenced : (producer same : Bool) (c : Check) → is_fenced c ≡ false → is_fenced (if producer then looks c same else others c) ≡ false
reads_unfenced true same c unfenced = ap is_fenced (looks_awake c same unfenced)
reads_unfenced false same c unfenced = others_unfenced c

-- its flag says what the check says; and it doesn't sleep, and is at no final check
abbrev pub IsAwake : Check → Bool → Type 0
IsAwake c asleep = (asleep ≡ false) × (sleeps c ≡ false)

abbrev pub IsAlert : Check → Bool → Type 0
IsAlert c asleep = (asleep ≡ false) × (sleeps c ≡ false) × (is_fenced c ≡ false)

abbrev pub IsTold : Check → Bool → Type 0
IsTold c asleep = sleeps c ≡ asleep

pub asleep_is : (c : Check) → sleeps c ≡ true → c ≡ Asleep
asleep_is Asleep is = refl
asleep_is c is = absurd (true≢false (sym is))

-- and a state that isn't Closed
abbrev pub is_closed : BusState → Bool
is_closed state.Closed = true
is_closed s = false

pub differs : {A : Type 0} (b c : BusState) → b ≡ state.Closed → b ≡ c → is_closed c ≡ false → A
differs b c own is other = absurd (true≢false (sym (ap is_closed own) ∙ (ap is_closed is ∙ other)))
