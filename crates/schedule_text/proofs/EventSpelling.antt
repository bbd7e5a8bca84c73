-- A schedule's line that was written is read again.
use Rattle.std.proofs.Common.{◌≡◌, ℕ, ◌<◌, ◌^◌, true, List, [], ◌∷◌, refl, sym, ap, ◌∙◌, decimal, codes, arith}
use Rattle.std.specs.List.{list_all}
use Rattle.line_text.proofs.Both.{both_true}
use Rattle.line_text.specs.Words.{words_in, joined}
use Rattle.line_text.specs.Texts.{is_key_name, is_key_text}
use Rattle.line_text.proofs.Again.{number_again, small_again, hex_again}
use Rattle.line_text.proofs.TextLemmas.{name_again, key_text_again}
use Rattle.line_text.proofs.Solid.{is_solid, solid, solid_again, solid_decimal}
use Rattle.blk_base.specs.declared.config.Submission.{Submission}
use Rattle.blk_base.specs.declared.config.Submission.TheVariants as submissions
use Rattle.blk_base.specs.declared.parts.End.{End}
use Rattle.blk_base.specs.declared.parts.End.TheVariants as ends
use Rattle.schedule_text.specs.declared.event.Event.{Event}
use Rattle.schedule_text.specs.declared.event.Event.TheVariants as events
use Rattle.schedule_text.specs.Line.{submission_words}
use Rattle.schedule_text.specs.Range.{SubmissionHasWidths}
use Rattle.schedule_text.specs.Event.{event_words, event_text, end_word, EventHasWidths, is_event_allowed, IsEventOf}
use Rattle.schedule_text.specs.EventReading.{event_at, end_at}
use Rattle.schedule_text.proofs.Again.{count_again}
use Rattle.schedule_text.proofs.Solid.{solid_submission}

end_again : (end : End) → end_at (end_word end) ≡ end
end_again ends.Front = refl
end_again ends.Back = refl

solid_end : (end : End) → is_solid (end_word end) ≡ true
solid_end ends.Front = refl
solid_end ends.Back = refl

submit_again : (job : Submission) → SubmissionHasWidths job → event_at (codes "submit" ∷ submission_words job) ≡ events.Submit job
unfolding event_at
submit_again (submissions.Read s c) h = rw (number_again s h.0, count_again c h.1) refl
submit_again (submissions.Write s c t) h = rw (number_again s h.0, count_again c h.1, hex_again t h.2) refl
submit_again (submissions.Barrier s c t) h = rw (number_again s h.0, count_again c h.1, hex_again t h.2) refl
submit_again submissions.Flush h = refl
submit_again (submissions.Discard s c) h = rw (number_again s h.0, count_again c h.1) refl

event_again : (event : Event) → EventHasWidths event → is_event_allowed event ≡ true → event_at (event_words event) ≡ event
unfolding event_at
event_again (events.Submit submission) h e = submit_again submission h
event_again (events.Front n) h e = rw (small_again n h) refl
event_again (events.Back n) h e = rw (small_again n h) refl
event_again (events.Job k n) h e = rw (small_again k h.0, small_again n h.1) refl
event_again (events.Turn n) h e = rw (small_again n h) refl
event_again events.Settle h e = refl
event_again events.Look h e = refl
event_again (events.Notify end) h e = rw (end_again end) refl
event_again events.Suspend h e = refl
event_again (events.Close end) h e = rw (end_again end) refl
event_again (events.Poke f w v) h e = rw (small_again f h.0, small_again w h.1, small_again v h.2) refl
event_again (events.Key name text) h e =
    let t = both_true (is_key_name name) (is_key_text text) e in
    rw ((name_again name t.0).again, (key_text_again text t.1).again) refl
event_again events.Dump h e = refl

small : (n : ℕ) → n < 2 ^ 32 → is_solid (decimal n) ≡ true
small n fits = solid_decimal n (omega arith)

solid_event : (event : Event) → EventHasWidths event → is_event_allowed event ≡ true → list_all is_solid (event_words event) ≡ true
solid_event (events.Submit submission) h e = solid_submission submission h
solid_event (events.Front n) h e = rw (small n h) refl
solid_event (events.Back n) h e = rw (small n h) refl
solid_event (events.Job k n) h e = rw (small k h.0, small n h.1) refl
solid_event (events.Turn n) h e = rw (small n h) refl
solid_event events.Settle h e = refl
solid_event events.Look h e = refl
solid_event (events.Notify end) h e = rw (solid_end end) refl
solid_event events.Suspend h e = refl
solid_event (events.Close end) h e = rw (solid_end end) refl
solid_event (events.Poke f w v) h e = rw (small f h.0, small w h.1, small v h.2) refl
solid_event (events.Key name text) h e =
    let t = both_true (is_key_name name) (is_key_text text) e in
    rw (solid name (name_again name t.0).no_space, solid text (key_text_again text t.1).no_space) refl
solid_event events.Dump h e = refl

some_words : (event : Event) → event_words event ≡ [] → ⊥
some_words (events.Submit submission) e = absurd cc
some_words event e = absurd cc

again_if : (words : List (List ℕ)) → (words ≡ [] → ⊥) → list_all is_solid words ≡ true → words_in (joined words) ≡ words
again_if [] some e = absurd (some refl)
again_if (w ∷ ws) some e = solid_again w ws e

-- what a text of the grammar says
pub says_event : (event : Event) (bytes : List ℕ) → IsEventOf event bytes → event_at (words_in bytes) ≡ event
says_event event bytes is =
    let again : words_in (event_text event) ≡ event_words event = again_if (event_words event) (some_words event) (solid_event event is.widths is.allowed) in
    ap (λ (b : List ℕ). event_at (words_in b)) (sym is.text) ∙ ap event_at again ∙ event_again event is.widths is.allowed
