use Rattle.std.proofs.Common.{◌≡◌, ℕ, ◌≤◌, ◌+◌, ◌-◌, ◌++◌, List, length, take, drop, replicate, sym, ◌∙◌, arith, subst}
use Rattle.std.specs.Str.{IsUtf8}
use Rattle.std.proofs.Math.Seq.{take-append_seam, drop-append_seam}
use Rattle.std.proofs.lemmas.List.{length-replicate, length-append, drop-replicate}
use Rattle.blk_base.proofs.short_text.ShortText.of.Goals as goal

pub invariant_of-result : goal.invariant_of-result
invariant_of-result g c =
    let text : List ℕ = c.args.text.now in
    let rest : List ℕ = drop (length text) (replicate g.row.N 0) in
    let same : c.copy_from_slice.new.self ≡ text = c.copy_from_slice.ensures.after ∙ c.as_bytes.ensures.value in
    subst (λ (new : List ℕ). (length text ≤ g.row.N) × (length (new ++ rest) ≡ g.row.N) × ∥ IsUtf8 (take (length text) (new ++ rest)) ∥₁ × (drop (length text) (new ++ rest) ≡ replicate (g.row.N - length text) 0))
    (sym same) (
      c.requires,
      filled text g.row.N c.requires,
      ∣ rw (take-append_seam text rest) c.utf8.text ∣₁,
      drop-append_seam text rest ∙ drop-replicate (length text) g.row.N 0,
    )
  where
    filled : (text : List ℕ) (n : ℕ) → length text ≤ n → length (text ++ drop (length text) (replicate {A = ℕ} n 0)) ≡ n
    filled text n fits =
        let left : drop {A = ℕ} (length text) (replicate {A = ℕ} n 0) ≡ replicate {A = ℕ} (n - length text) 0 = drop-replicate (length text) n 0 in
        let zeros : length (replicate {A = ℕ} (n - length text) 0) ≡ n - length text = length-replicate (n - length text) 0 in
        let whole : length (text ++ replicate {A = ℕ} (n - length text) 0) ≡ length text + length (replicate {A = ℕ} (n - length text) 0) = length-append text (replicate {A = ℕ} (n - length text) 0) in
        rw left (whole ∙ omega arith)
