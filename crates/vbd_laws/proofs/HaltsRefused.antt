-- The rule on halts refuses what no machine gives.
use Rattle.std.proofs.Common.{◌≡◌, ℕ, true, false, true≢false, List, [], ◌∷◌, ◌++◌, refl, sym, ap, ◌∙◌, codes, if◌then◌else◌}
use Rattle.std.specs.Prelude.{ℤ, Option, Some, None, is_none}
use Rattle.std.proofs.lemmas.Option.{none-some}
use Rattle.blk_base.specs.Options.{Options}
use Rattle.blk_base.specs.declared.parts.Mode.TheVariants.{ReadWrite}
use Rattle.blk_base.specs.declared.moves.BackMover.TheVariants as back
use Rattle.blk_base.specs.declared.moves.Mover.TheVariants.{Back}
use Rattle.blk_base.specs.declared.moves.Move.TheVariants as moves
use Rattle.schedule_text.specs.declared.line.Detail.TheVariants.{Moves}
use Rattle.blk_base.specs.declared.halt.Halt.{Halt}
use Rattle.blk_base.specs.declared.halt.Halt.TheVariants as halts
use Rattle.schedule_text.specs.declared.line.Line.{Line}
use Rattle.schedule_text.specs.declared.line.Line.TheVariants as lines
use Rattle.xenbus_state.specs.declared.keys.FrontKey.TheVariants as key
use Rattle.xenbus_state.specs.Numbers.{number_of, number_in, number_after}
use Rattle.negotiation_laws.specs.Negotiation.{front_state, back_state, front_path}
use Rattle.vbd_laws.specs.Halts.{key_at, state_said, state_halt, key_halt, said_by, halt_shown, HaltsHere, HaltsByCauses}
use Rattle.vbd_laws.specs.WrongHalts.{gone_while_connected, out_of_order_early, on_at_a_beginning, on_at_no_state, halted_by_a_port, on_at_no_port, refused_though_mapped, bad_though_bound, on_though_refused, halted_by_nothing, works_on, reads_of_a_closed_front}

one_said : ◌≡◌ {A = Option ℕ} (state_said (Some (codes "1"))) (Some 1)
unfolding number_in number_after
one_said = refl

four_said : ◌≡◌ {A = Option ℕ} (state_said (Some (codes "4"))) (Some 4)
unfolding number_in number_after
four_said = refl

none_said : ◌≡◌ {A = Option ℕ} (state_said (Some (codes "x"))) None
unfolding number_in number_after
none_said = refl

number_one : ◌≡◌ {A = Option ℕ} (number_of (codes "1")) (Some 1)
unfolding number_in number_after
number_one = refl

number_none : ◌≡◌ {A = Option ℕ} (number_of (codes "x")) None
unfolding number_in number_after
number_none = refl

-- the halt that a line is, is the one that is due there
due_at : (before after : List Line) (line : Line) → HaltsByCauses (before ++ line ∷ after) → halt_shown line ≡ (said_by before).due
due_at before after line obeys = let is : HaltsHere (said_by before) line = obeys before after line refl in is.halts

pub gone : (config : Options) → HaltsByCauses (gone_while_connected config) → ⊥
gone config h =
    let due = due_at (lines.Begin config Moves ∷ lines.Move (moves.GetKey Back front_state (Some (codes "4"))) ∷ []) [] (lines.Halt (halts.Gone 5)) h in
    let none : ◌≡◌ {A = Option Halt} (Some (halts.Gone 5)) None = due ∙ ap (state_halt false) four_said in
    none-some _ (sym none)

pub early : (config : Options) → HaltsByCauses (out_of_order_early config) → ⊥
early config h =
    let due = due_at (lines.Begin config Moves ∷ lines.Move (moves.GetKey Back front_state (Some (codes "1"))) ∷ []) [] (lines.Halt (halts.BadOrder 1)) h in
    let none : ◌≡◌ {A = Option Halt} (Some (halts.BadOrder 1)) None = due ∙ ap (state_halt false) one_said in
    none-some _ (sym none)

pub beginning : (config : Options) → HaltsByCauses (on_at_a_beginning config) → ⊥
beginning config h =
    let due = due_at (lines.Begin config Moves ∷ lines.Move (moves.SetKey Back back_state (codes "4")) ∷ lines.Move (moves.GetKey Back front_state (Some (codes "1"))) ∷ []) [] lines.End h in
    let some : ◌≡◌ {A = Option Halt} None (Some (halts.BadOrder 1)) = due ∙ ap (state_halt true) one_said in
    none-some _ some

pub no_state : (config : Options) → HaltsByCauses (on_at_no_state config) → ⊥
no_state config h =
    let due = due_at (lines.Begin config Moves ∷ lines.Move (moves.GetKey Back front_state (Some (codes "x"))) ∷ []) [] lines.End h in
    let some : ◌≡◌ {A = Option Halt} None (Some (halts.BadKey (codes "state"))) = due ∙ ap (state_halt false) none_said in
    none-some _ some

-- the key of the port
port_found : ◌≡◌ (key_at (front_path key.EventChannel)) (Some key.EventChannel)
unfolding key_at
port_found = refl

abbrev port_halt : Option ℕ → Option Halt
port_halt None = Some (halts.BadKey (codes "event-channel"))
port_halt (Some n) = None

port_halts : (text : List ℕ) → key_halt 0 (key_at (front_path key.EventChannel)) (Some text) ≡ port_halt (number_of text)
port_halts text = ap (λ k. key_halt 0 k (Some text)) port_found ∙ (elim (number_of text) as (λ n. (if is_none n then Some (halts.BadKey (codes "event-channel")) else None) ≡ port_halt n) [ None ↦ refl | Some n ↦ refl ])

pub good_port : (config : Options) → HaltsByCauses (halted_by_a_port config) → ⊥
good_port config h =
    let due = due_at (lines.Begin config Moves ∷ lines.Move (moves.GetKey Back (front_path key.EventChannel) (Some (codes "1"))) ∷ []) [] (lines.Halt (halts.BadKey (codes "event-channel"))) h in
    let none : ◌≡◌ {A = Option Halt} (Some (halts.BadKey (codes "event-channel"))) None = due ∙ (port_halts (codes "1") ∙ ap port_halt number_one) in
    none-some _ (sym none)

pub no_port : (config : Options) → HaltsByCauses (on_at_no_port config) → ⊥
no_port config h =
    let due = due_at (lines.Begin config Moves ∷ lines.Move (moves.GetKey Back (front_path key.EventChannel) (Some (codes "x"))) ∷ []) [] lines.End h in
    let some : ◌≡◌ {A = Option Halt} None (Some (halts.BadKey (codes "event-channel"))) = due ∙ (port_halts (codes "x") ∙ ap port_halt number_none) in
    none-some _ some

pub mapped : (config : Options) (gref : ℕ) (status : ℤ) → HaltsByCauses (refused_though_mapped config gref status) → ⊥
mapped config gref status h = none-some _ (sym (due_at (lines.Begin config Moves ∷ lines.Move (moves.Map back.Back gref ReadWrite 1 2) ∷ []) [] (lines.Halt (halts.MapRefused gref status)) h))

pub bound : (config : Options) (number : ℕ) → HaltsByCauses (bad_though_bound config number) → ⊥
bound config number h = none-some _ (sym (due_at (lines.Begin config Moves ∷ lines.Move (moves.Bind number) ∷ []) [] (lines.Halt (halts.BadPort number)) h))

pub refused : (config : Options) (gref : ℕ) (status : ℤ) → HaltsByCauses (on_though_refused config gref status) → ⊥
refused config gref status h = none-some _ (due_at (lines.Begin config Moves ∷ lines.Move (moves.MapRefused back.Back gref ReadWrite status) ∷ []) [] lines.End h)

pub uncaused : (config : Options) → HaltsByCauses (halted_by_nothing config) → ⊥
uncaused config h = none-some _ (sym (due_at (lines.Begin config Moves ∷ []) [] (lines.Halt (halts.Gone 6)) h))

pub works : (config : Options) (gref : ℕ) (status : ℤ) → HaltsByCauses (works_on config gref status) → ⊥
works config gref status h =
    let before : List Line = lines.Begin config Moves ∷ lines.Move (moves.MapRefused back.Back gref ReadWrite status) ∷ lines.Halt (halts.MapRefused gref status) ∷ [] in
    let is : HaltsHere (said_by before) (lines.Move (moves.Map back.Back gref ReadWrite 1 2)) = h before [] (lines.Move (moves.Map back.Back gref ReadWrite 1 2)) refl in
    true≢false (is.rests refl)

pub anew : (config : Options) → HaltsByCauses (reads_of_a_closed_front config) → ⊥
anew config h =
    let before : List Line = lines.Begin config Moves ∷ lines.Closed ∷ lines.Epoch ∷ [] in
    let line : Line = lines.Move (moves.GetKey Back front_state (Some (codes "1"))) in
    let is : HaltsHere (said_by before) line = h before [] line refl in
    true≢false (is.rests refl)
