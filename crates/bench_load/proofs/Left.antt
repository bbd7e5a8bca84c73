-- The first of the lines that are left, over plain variables.
use Rattle.std.proofs.Common.{◌≡◌, ℕ, suc, ◌-◌, ◌∷◌, ap, sym, ◌∙◌, arith}
use Rattle.rand_pcg.specs.Lcg.{Lcg}
use Rattle.schedule_text.specs.declared.event.Event.{Event}
use Rattle.bench_load.specs.declared.schedule.Next.{Next}
use Rattle.bench_load.specs.declared.schedule.Next.TheVariants.{Line}
use Rattle.bench_load.specs.Generated.{event_by, words_of, after_words}
use Rattle.bench_load.specs.Left.{events_left}

-- where a line is left it is the next one
pub line_taken : (next : Next) (n : ℕ) (g h : Lcg) (event : Event) → next ≡ Line → (n ≡ 0 → ⊥) → event ≡ event_by (words_of g) → h ≡ after_words g → events_left next n g ≡ event ∷ events_left next (n - 1) h
line_taken next n g h event at some says drawn =
    let more : n ≡ suc (n - 1) = omega arith in
    ap (λ (x : Next). events_left x n g) at
    ∙ ap (λ (k : ℕ). events_left Line k g) more
    ∙ ap (λ (e : Event). e ∷ events_left Line (n - 1) (after_words g)) (sym says)
    ∙ ap (λ (x : Lcg). event ∷ events_left Line (n - 1) x) (sym drawn)
    ∙ ap (λ (x : Next). event ∷ events_left x (n - 1) h) (sym at)
