-- An act shows a move that the rules allow, and the lines go on telling what is there.
use Rattle.std.proofs.Common.{◌≡◌, ℕ, ◌+◌, ◌*◌, ◌/◌, ◌%◌, ◌<◌, ◌≤◌, ◌==◌, not, Bool, true, false, List, [], ◌∷◌, ◌++◌, map, refl, ap, sym, ◌∙◌, subst, arith}
use Rattle.std.specs.Prelude.{Some, None, Result, Ok, Err, max}
use Rattle.std.proofs.lemmas.List.{append-nil, map-append}
use Rattle.std.proofs.lemmas.List.Elements.{All-contains, All-push, All-filter}
use Rattle.blk_base.specs.declared.parts.Mapping.{Mapping}
use Rattle.blk_base.specs.declared.parts.Mode.{Mode}
use Rattle.blk_base.specs.declared.parts.Mode.TheVariants.{ReadWrite}
use Rattle.blk_base.specs.declared.ask.FrontAsk.{FrontAsk}
use Rattle.blk_base.specs.declared.ask.BackAsk.{BackAsk}
use Rattle.blk_base.specs.declared.moves.BackMover.{BackMover}
use Rattle.blk_base.specs.declared.moves.Move.{Move}
use Rattle.blk_base.specs.declared.moves.Move.TheVariants as moves
use Rattle.xen_pages.specs.Pages.{word_of, with_word}
use Rattle.grant_table.specs.declared.held.Held.{Held}
use Rattle.grant_table.specs.declared.entry.MapRefusal.{MapRefusal}
use Rattle.grant_table.specs.Entry.{status_of, mapped_entry, unmapped_entry}
use Rattle.grant_table.specs.Table.{GrantTable, IsLive, held_of, frame_of, without, mappings_of, writers_of, verdict_at, next_mapping, with_mapping, map_pages, unmap_table, unmap_pages, entry_word0, entry_word1}
use Rattle.grant_table.specs.Sound.{IsGrantable}
use Rattle.hypervisor.specs.Hypervisor.{Hypervisor}
use Rattle.hypervisor.specs.Act.{FrontAct, BackAct, Outcome, front_act, back_act, map_act, exchanged}
use Rattle.schedule_text.specs.declared.line.Line.{Line}
use Rattle.schedule_text.specs.declared.line.Line.TheVariants as lines
use Rattle.report_rules.specs.declared.standing.Standing.{Standing}
use Rattle.report_rules.specs.Standing.{is_epoch, is_unmap_of, mapping_made, standing_after, numbered}
use Rattle.report_rules.specs.Value.{value_after, after_write}
use Rattle.blk_front.specs.Ask.{StaysInMemory}
use Rattle.back_jobs.specs.Hands.{Names}
use Rattle.split_model.specs.Safe.{AreHeld}
use Rattle.split_model.proofs.Acting.{FrontRead, FrontWrite, FrontCas, front_acts, BackRead, BackWrite, BackMap, BackMapRefused, BackUnmap, back_acts}
use Rattle.move_laws.specs.Tells.{Tells, standing_of}
use Rattle.move_laws.proofs.Follows.{IsAllowed}
use Rattle.move_laws.proofs.Memory.{length_written, word_written, flags_written}
use Rattle.move_laws.proofs.Standing.{filter_none, numbered_live, without_live, others_live, writers_live}
use Rattle.move_laws.proofs.Tells.{tells_more, new_number}
use Rattle.move_laws.proofs.Still.{IsStill, still, none_goes, tells_still}
use Rattle.move_laws.proofs.Entries.{IsGranted, granted, verdict_told, Found, found, frame_found}

-- the move's line may follow, and then the lines tell of that memory and those mappings
pub record IsKept (before : List Line) (shown : Move) (pages : List ℕ) (table : GrantTable) : Type 0 where
  pub allowed : IsAllowed before (lines.Move shown)
  pub tells : Tells (before ++ lines.Move shown ∷ []) pages table

abbrev pub FrontKeeps : List Line → FrontAct → Type 0
FrontKeeps before a = IsKept before a.shown a.under.pages a.under.grants

abbrev pub BackKeeps : List Line → BackAct → Type 0
BackKeeps before a = IsKept before a.shown a.under.pages a.under.grants

kept_still : (before : List Line) (shown : Move) (pages : List ℕ) (table : GrantTable) → IsStill (lines.Move shown) → IsAllowed before (lines.Move shown) → Tells before pages table → IsKept before shown pages table
kept_still before shown pages table s allowed tells = record { allowed = allowed; tells = tells_still before (lines.Move shown) pages table s tells }

-- a line that writes a word
pub tells_write : (before : List Line) (line : Line) (pages : List ℕ) (table : GrantTable) (frame word value : ℕ) → is_epoch line ≡ false → ((number : ℕ) → is_unmap_of number line ≡ false) → mapping_made line ≡ None
    → ((f w v : ℕ) → value_after (record { frame = f; word = w }) v before line ≡ after_write (record { frame = f; word = w }) v frame word value)
    → frame < 1088 → word < 1024 → Tells before pages table → Tells (before ++ line ∷ []) (with_word pages frame word value) table
tells_write before line pages table frame word value same_epoch gone none_made writes framed worded tells =
    tells_more before line pages (with_word pages frame word value) table table tells same_epoch
    (length_written pages frame word value tells.sized)
    (λ f w f_in w_in. writes f w (word_of pages f w) ∙ sym (word_written pages frame word value f w tells.sized framed worded w_in))
    (rw (none_made, none_goes line (map standing_of table.live) gone) (append-nil (map standing_of table.live)))
    (rw none_made refl)
    tells.grantable

cas_kept : (before : List Line) (pages : List ℕ) (table : GrantTable) (frame word old new : ℕ) → frame < 1088 → word < 1024 → Tells before pages table → Tells (before ++ lines.Move (moves.FrontCas frame word old new (word_of pages frame word)) ∷ []) (exchanged pages frame word old new) table
cas_kept before pages table frame word old new framed worded tells = by_test (word_of pages frame word == old) refl
  where
    by_test : (b : Bool) → (word_of pages frame word == old) ≡ b → Tells (before ++ lines.Move (moves.FrontCas frame word old new (word_of pages frame word)) ∷ []) (exchanged pages frame word old new) table
    by_test true t =
        let same : with_word pages frame word new ≡ exchanged pages frame word old new = rw t refl in
        subst (λ (p : List ℕ). Tells (before ++ lines.Move (moves.FrontCas frame word old new (word_of pages frame word)) ∷ []) p table) same
        (tells_write before (lines.Move (moves.FrontCas frame word old new (word_of pages frame word))) pages table frame word new refl (λ n. refl) refl (λ f w v. rw t refl) framed worded tells)
    by_test false t =
        let same : pages ≡ exchanged pages frame word old new = rw t refl in
        subst (λ (p : List ℕ). Tells (before ++ lines.Move (moves.FrontCas frame word old new (word_of pages frame word)) ∷ []) p table) same
        (tells_still before (lines.Move (moves.FrontCas frame word old new (word_of pages frame word))) pages table (still _ refl (λ f w v b. rw t refl) (λ n. refl) refl) tells)

pub front_kept : (before : List Line) (h : Hypervisor) (ask : FrontAsk) (a : FrontAct) → Tells before h.pages h.grants → StaysInMemory ask → front_act h ask ≡ Some a → FrontKeeps before a
front_kept before h ask a tells within e = (elim (front_acts h ask a e) as (λ asked x acts. StaysInMemory asked → FrontKeeps before x) [
  | FrontRead frame word ↦ λ within. kept_still before (moves.FrontRead frame word (word_of h.pages frame word)) h.pages h.grants (still _ refl (λ f w v b. refl) (λ n. refl) refl)
      (record { coherent = sym (tells.values frame word (omega (arith, within.0)) within.1); answered = tt; numbered = tt; touched = tt; grantable = tt }) tells
  | FrontWrite frame word value ↦ λ within. record {
    allowed = record { coherent = tt; answered = tt; numbered = tt; touched = tt; grantable = tt };
    tells = tells_write before (lines.Move (moves.FrontWrite frame word value)) h.pages h.grants frame word value refl (λ n. refl) refl (λ f w v. refl) (omega (arith, within.0)) within.1 tells;
  }
  | FrontCas frame word old new ↦ λ within. record {
    allowed = record { coherent = sym (tells.values frame word (omega (arith, within.0)) within.1); answered = tt; numbered = tt; touched = tt; grantable = tt };
    tells = cas_kept before h.pages h.grants frame word old new (omega (arith, within.0)) within.1 tells;
  }
  | acts ↦ λ within. kept_still before _ h.pages h.grants (still _ refl (λ f w v b. refl) (λ n. refl) refl) (record { coherent = tt; answered = tt; numbered = tt; touched = tt; grantable = tt }) tells
]) within

-- the mapping that an ask names stands, with its frame and mode
standing_found : (before : List Line) (pages : List ℕ) (table : GrantTable) (m : Mapping) (f : Found table m) → Tells before pages table → numbered m.number (standing_after before) ≡ Some (standing_of f.held)
standing_found before pages table m f tells = rw (tells.standing, numbered_live m.number table.live, f.is) refl

read_allowed : (before : List Line) (pages : List ℕ) (table : GrantTable) (who : BackMover) (m : Mapping) (word : ℕ) → Found table m → word < 1024 → Tells before pages table → IsAllowed before (lines.Move (moves.Read who m.number (frame_of table m) word (word_of pages (frame_of table m) word)))
read_allowed before pages table who m word f within tells =
    let frame : frame_of table m ≡ f.held.frame = frame_found table m f in
    let low : 2 ≤ f.held.frame = f.fits.low in
    let high : f.held.frame ≤ 1023 = f.fits.high in
    record {
      coherent = sym (tells.values (frame_of table m) word (omega arith) within);
      answered = tt;
      numbered = tt;
      touched = rw (standing_found before pages table m f tells) (sym frame);
      grantable = (omega arith, omega arith);
    }

write_allowed : (before : List Line) (pages : List ℕ) (table : GrantTable) (who : BackMover) (m : Mapping) (word value : ℕ) → Found table m → m.mode ≡ ReadWrite → word < 1024 → Tells before pages table → IsAllowed before (lines.Move (moves.Write who m.number (frame_of table m) word value))
write_allowed before pages table who m word value f writes within tells =
    let frame : frame_of table m ≡ f.held.frame = frame_found table m f in
    let low : 2 ≤ f.held.frame = f.fits.low in
    let high : f.held.frame ≤ 1023 = f.fits.high in
    record {
      coherent = tt;
      answered = tt;
      numbered = tt;
      touched = rw (standing_found before pages table m f tells) (sym frame, ap (λ (x : Mapping). x.mode) f.same ∙ writes);
      grantable = (omega arith, omega arith);
    }

map_kept : (before : List Line) (h : Hypervisor) (who : BackMover) (gref : ℕ) (mode : Mode) (verdict : Result ℕ MapRefusal) → Tells before h.pages h.grants → verdict_at h.pages gref mode ≡ verdict → BackKeeps before (map_act h who gref mode verdict)
map_kept before h who gref mode (Ok frame) tells e =
    let g : IsGranted gref frame = granted gref (entry_word0 h.pages gref) (entry_word1 h.pages gref) mode frame e in
    let next : Held = record { mapping = next_mapping h.grants gref mode; frame = frame } in
    let high : max h.grants.made (h.grants.made + 1) ≡ h.grants.made + 1 = omega arith in
    record {
      allowed = record { coherent = tt; answered = (verdict_told before h.pages h.grants gref mode tells ∙ e, new_number before (h.grants.made + 1) (omega (arith, tells.made))); numbered = ap (λ (n : ℕ). n + 1) (sym tells.made); touched = tt; grantable = tt };
      tells = tells_more before (lines.Move (moves.Map who gref mode (h.grants.made + 1) frame)) h.pages (map_pages h.pages gref mode (Ok frame)) h.grants (with_mapping h.grants gref mode frame) tells refl
          (length_written h.pages (gref / 512) (2 * (gref % 512)) (mapped_entry (entry_word0 h.pages gref) mode) tells.sized)
          (λ f w f_in w_in. sym (flags_written h.pages gref f w (λ (v : ℕ). mapped_entry v mode) tells.sized g.reference w_in))
          (ap (λ (xs : List Standing). xs ++ standing_of next ∷ []) (filter_none (map standing_of h.grants.live)) ∙ sym (map-append standing_of h.grants.live (next ∷ [])))
          high
          (All-push IsGrantable h.grants.live next tells.grantable (record { reference = g.reference; low = g.low; high = g.high }));
    }
map_kept before h who gref mode (Err refusal) tells e =
    kept_still before (moves.MapRefused who gref mode (status_of refusal)) h.pages h.grants (still _ refl (λ f w v b. refl) (λ n. refl) refl)
    (record { coherent = tt; answered = (refusal, verdict_told before h.pages h.grants gref mode tells ∙ e, refl); numbered = tt; touched = tt; grantable = tt }) tells

-- the mapping of a live one's number is taken out
unmap_held : (before : List Line) (pages : List ℕ) (table : GrantTable) (who : BackMover) (held : Held) → held_of held.mapping.number table.live ≡ Some held → IsGrantable held → Tells before pages table → IsKept before (moves.Unmap who held.mapping.number) (unmap_pages table pages held.mapping) (unmap_table table held.mapping)
unmap_held before pages table who held is fits tells = record {
  allowed = record { coherent = tt; answered = tt; numbered = tt; touched = tt; grantable = tt };
  tells = tells_more before (lines.Move (moves.Unmap who held.mapping.number)) pages (unmap_pages table pages held.mapping) table (unmap_table table held.mapping) tells refl
      (length_written pages (held.mapping.gref / 512) (2 * (held.mapping.gref % 512)) _ tells.sized)
      (λ f w f_in w_in.
      let stands : numbered held.mapping.number (standing_after before) ≡ Some (standing_of held) = rw (tells.standing, numbered_live held.mapping.number table.live, is) refl in
      rw (stands, tells.standing, others_live held.mapping.gref held.mapping.number table.live, writers_live held.mapping.gref held.mapping.number table.live)
      (sym (flags_written pages held.mapping.gref f w (λ (v : ℕ). unmapped_entry v (mappings_of held.mapping.gref (without held.mapping.number table.live)) (writers_of held.mapping.gref (without held.mapping.number table.live))) tells.sized fits.reference w_in)))
      (append-nil _ ∙ without_live held.mapping.number table.live)
      refl
      (All-filter (λ (h : Held). not (h.mapping.number == held.mapping.number)) IsGrantable table.live tells.grantable);
}

unmap_kept : (before : List Line) (pages : List ℕ) (table : GrantTable) (who : BackMover) (m : Mapping) → Found table m → Tells before pages table → IsKept before (moves.Unmap who m.number) (unmap_pages table pages m) (unmap_table table m)
unmap_kept before pages table who m f tells =
    subst (λ (x : Mapping). IsKept before (moves.Unmap who x.number) (unmap_pages table pages x) (unmap_table table x)) f.same
    (unmap_held before pages table who f.held (subst (λ (x : Mapping). held_of x.number table.live ≡ Some f.held) (sym f.same) f.is) f.fits tells)

pub back_kept : (before : List Line) (h : Hypervisor) (who : BackMover) (ask : BackAsk) (o : Outcome) (a : BackAct) (hands : List Mapping) → Tells before h.pages h.grants → AreHeld h.grants hands → Names hands ask → back_act h who ask o ≡ Some a → BackKeeps before a
back_kept before h who ask o a hands tells held names e = (elim (back_acts h who ask o a e) as (λ mover asked outcome x acts. Names hands asked → BackKeeps before x) [
  | BackRead m word ↦ λ names.
      let f : Found h.grants m = found h.grants m (All-contains (IsLive h.grants) hands m held.live names.0) tells.grantable in
      kept_still before _ h.pages h.grants (still _ refl (λ f w v b. refl) (λ n. refl) refl) (read_allowed before h.pages h.grants _ m word f names.1 tells) tells
  | BackWrite m word value ↦ λ names.
      let f : Found h.grants m = found h.grants m (All-contains (IsLive h.grants) hands m held.live names.0) tells.grantable in
      let frame : frame_of h.grants m ≡ f.held.frame = frame_found h.grants m f in
      let high : f.held.frame ≤ 1023 = f.fits.high in
      record {
        allowed = write_allowed before h.pages h.grants _ m word value f names.1 names.2 tells;
        tells = tells_write before (lines.Move (moves.Write _ m.number (frame_of h.grants m) word value)) h.pages h.grants (frame_of h.grants m) word value
            refl (λ n. refl) refl (λ g w v. refl) (omega arith) names.2 tells;
      }
  | BackMap gref mode frame is ↦ λ names. map_kept before h _ gref mode (Ok frame) tells is
  | BackMapRefused gref mode refusal is ↦ λ names. map_kept before h _ gref mode (Err refusal) tells is
  | BackUnmap m ↦ λ names. unmap_kept before h.pages h.grants _ m (found h.grants m (All-contains (IsLive h.grants) hands m held.live names) tells.grantable) tells
  | acts ↦ λ names. kept_still before _ h.pages h.grants (still _ refl (λ f w v b. refl) (λ n. refl) refl) (record { coherent = tt; answered = tt; numbered = tt; touched = tt; grantable = tt }) tells
]) names
