-- Each line of a generated schedule is read as that line and as no other.
use Rattle.std.proofs.Common.{◌≡◌, ℕ, zero, suc, ◌+◌, ◌%◌, ◌<◌, ◌≤◌, ◌^◌, true, [], ◌∷◌, All, codes, decimal, refl, sym, ap, ◌∙◌, arith}
use Rattle.std.specs.Prelude.{max}
use Rattle.std.proofs.lemmas.Bool.Decides.{nat_tests}
use Rattle.std.proofs.lemmas.List.Elements.{All-nil, All-cons, All-append}
use Rattle.line_text.specs.Words.{words_in}
use Rattle.line_text.specs.Numbers.{number_of, hex_of, hex8}
use Rattle.line_text.proofs.Again.{number_again, small_again, hex_again}
use Rattle.line_text.proofs.Solid.{is_solid, solid_again, solid_decimal, solid_hex}
use Rattle.blk_base.specs.declared.config.Submission.TheVariants as submissions
use Rattle.rand_pcg.specs.Lcg.{Lcg}
use Rattle.schedule_text.specs.declared.event.Event.{Event}
use Rattle.schedule_text.specs.declared.event.Event.TheVariants as events
use Rattle.schedule_text.specs.Event.{event_text, EventHasWidths, is_event_allowed, IsSilent}
use Rattle.schedule_text.specs.EventReading.{event_at}
use Rattle.schedule_text.proofs.Again.{count_again}
use Rattle.schedule_text.proofs.EventSpelling.{says_event}
use Rattle.bench_load.specs.Generated.{Words, words_of, after_words, event_by, lines_from, generator_of}
use Rattle.bench_load.specs.Grammar.{IsSpoken, EachIsSpoken}
use Rattle.bench_load.proofs.Forms.{by_form}
use Rattle.bench_load.proofs.Widths.{kind_fits}
use Rattle.bench_load.proofs.Unbroken.{IsUnbroken, literal, decimal_unbroken, hex8_unbroken, joined_unbroken}

-- what there is to show of a line
record IsClear (event : Event) : Type 0 where
  widths : EventHasWidths event
  allowed : is_event_allowed event ≡ true
  again : event_at (words_in (event_text event)) ≡ event
  speaks : IsSilent (event_text event) → ⊥
  unbroken : IsUnbroken (event_text event)

spoken : (event : Event) → IsClear event → IsSpoken event
spoken event c = record {
  is = record { widths = c.widths; allowed = c.allowed; text = refl };
  only = λ other is. sym (says_event other (event_text event) is) ∙ c.again;
  speaks = c.speaks;
  unbroken = c.unbroken;
}

small : (n : ℕ) → n < 2 ^ 32 → n < 2 ^ 64
small n h = omega arith

solid_small : (n : ℕ) → n < 2 ^ 32 → is_solid (decimal n) ≡ true
solid_small n h = solid_decimal n (small n h)

unbroken_small : (n : ℕ) → n < 2 ^ 32 → IsUnbroken (decimal n)
unbroken_small n h = decimal_unbroken n (small n h)

clear_settle : IsClear events.Settle
unfolding event_at words_in
clear_settle = record {
  widths = tt;
  allowed = refl;
  again = ap event_at (solid_again (codes "settle") [] refl);
  speaks = λ h. absurd (cc h.0);
  unbroken = literal (codes "settle") refl;
}

clear_turn : (n : ℕ) → n < 2 ^ 32 → is_event_allowed (events.Turn n) ≡ true → IsClear (events.Turn n)
unfolding event_at
clear_turn n h allowed = record {
  widths = h;
  allowed = allowed;
  again = ap event_at (solid_again (codes "turn") (decimal n ∷ []) (rw (solid_small n h) refl)) ∙ ap events.Turn (small_again n h);
  speaks = λ s. absurd (cc s.0);
  unbroken = joined_unbroken (codes "turn" ∷ decimal n ∷ []) (literal (codes "turn") refl, (unbroken_small n h, tt));
}

clear_job : (k n : ℕ) → k < 2 ^ 32 → n < 2 ^ 32 → is_event_allowed (events.Job k n) ≡ true → IsClear (events.Job k n)
unfolding event_at
clear_job k n h i allowed = record {
  widths = (h, i);
  allowed = allowed;
  again =
      ap event_at (solid_again (codes "job") (decimal k ∷ decimal n ∷ []) (rw (solid_small k h, solid_small n i) refl))
      ∙ ap (λ (x : ℕ). events.Job x (number_of (decimal n) % 2 ^ 32)) (small_again k h)
      ∙ ap (λ (x : ℕ). events.Job k x) (small_again n i);
  speaks = λ s. absurd (cc s.0);
  unbroken = joined_unbroken (codes "job" ∷ decimal k ∷ decimal n ∷ []) (literal (codes "job") refl, (unbroken_small k h, (unbroken_small n i, tt)));
}

clear_read : (s c : ℕ) → s < 2 ^ 32 → 0 < c → c < 2 ^ 32 → IsClear (events.Submit (submissions.Read s c))
unfolding event_at
clear_read s c h some i = record {
  widths = (small s h, (some, i));
  allowed = refl;
  again =
      ap event_at (solid_again (codes "submit") (codes "read" ∷ decimal s ∷ decimal c ∷ []) (rw (solid_small s h, solid_small c i) refl))
      ∙ ap (λ (x : ℕ). events.Submit (submissions.Read x (max (number_of (decimal c) % 2 ^ 32) 1))) (number_again s (small s h))
      ∙ ap (λ (x : ℕ). events.Submit (submissions.Read s x)) (count_again c (some, i));
  speaks = λ s. absurd (cc s.0);
  unbroken =
      joined_unbroken (codes "submit" ∷ codes "read" ∷ decimal s ∷ decimal c ∷ [])
      (literal (codes "submit") refl, (literal (codes "read") refl, (unbroken_small s h, (unbroken_small c i, tt))));
}

clear_write : (s c t : ℕ) → s < 2 ^ 32 → 0 < c → c < 2 ^ 32 → t < 2 ^ 32 → IsClear (events.Submit (submissions.Write s c t))
unfolding event_at
clear_write s c t h some i j = record {
  widths = (small s h, (some, i), j);
  allowed = refl;
  again =
      ap event_at (solid_again (codes "submit") (codes "write" ∷ decimal s ∷ decimal c ∷ hex8 t ∷ []) (rw (solid_small s h, solid_small c i, solid_hex t) refl))
      ∙ ap (λ (x : ℕ). events.Submit (submissions.Write x (max (number_of (decimal c) % 2 ^ 32) 1) (hex_of (hex8 t)))) (number_again s (small s h))
      ∙ ap (λ (x : ℕ). events.Submit (submissions.Write s x (hex_of (hex8 t)))) (count_again c (some, i))
      ∙ ap (λ (x : ℕ). events.Submit (submissions.Write s c x)) (hex_again t j);
  speaks = λ s. absurd (cc s.0);
  unbroken =
      joined_unbroken (codes "submit" ∷ codes "write" ∷ decimal s ∷ decimal c ∷ hex8 t ∷ [])
      (literal (codes "submit") refl, (literal (codes "write") refl, (unbroken_small s h, (unbroken_small c i, (hex8_unbroken t, tt)))));
}

is_number_there : (n : ℕ) → 0 < n → n ≤ 1000000 → is_event_allowed (events.Turn n) ≡ true
is_number_there n some few = grind (arith, nat_tests)

-- the line of three words, of which the first has 32 bits
line_spoken : (w : Words) → w.kind < 2 ^ 32 → IsSpoken (event_by w)
line_spoken w h =
    by_form IsSpoken w
    (spoken _ (clear_write (w.place % 4096) (1 + w.size % 16) w.kind (omega arith) (omega arith) (omega arith) h))
    (spoken _ (clear_read (w.place % 4096) (1 + w.size % 16) (omega arith) (omega arith) (omega arith)))
    (spoken _ (clear_turn (1 + w.size % 500) (omega arith) (is_number_there (1 + w.size % 500) (omega arith) (omega arith))))
    (spoken _ (clear_job (1 + w.place % 8) (1 + w.size % 300) (omega arith) (omega arith) (both_numbers (1 + w.place % 8) (1 + w.size % 300) (omega arith) (omega arith) (omega arith) (omega arith))))
    (spoken _ clear_settle)
  where
    both_numbers : (k n : ℕ) → 0 < k → k ≤ 1000000 → 0 < n → n ≤ 1000000 → is_event_allowed (events.Job k n) ≡ true
    both_numbers k n a b c d = rw (is_number_there k a b, is_number_there n c d) refl

lines_spoken : (n : ℕ) (g : Lcg) → All IsSpoken (lines_from n g)
lines_spoken zero g = All-nil IsSpoken
lines_spoken (suc n) g = All-cons IsSpoken (event_by (words_of g)) (lines_from n (after_words g)) (line_spoken (words_of g) (kind_fits g)) (lines_spoken n (after_words g))

pub each_is_spoken : EachIsSpoken
each_is_spoken seed count =
    let settle = spoken events.Settle clear_settle in
    All-cons IsSpoken events.Settle _ settle
    (All-append IsSpoken (lines_from count (generator_of seed)) (events.Settle ∷ []) (lines_spoken count (generator_of seed)) (All-cons IsSpoken events.Settle [] settle (All-nil IsSpoken)))
