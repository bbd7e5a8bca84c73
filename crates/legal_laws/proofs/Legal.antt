-- Lines that keep the rules one by one keep all rules.
use Rattle.std.proofs.Common.{◌≡◌, ◌&&◌, Bool, true, false, List, [], ◌∷◌, ◌++◌, drop, refl, ap, sym, subst, ◌∙◌, true≢false}
use Rattle.std.specs.List.{list_all, prefix_len}
use Rattle.std.proofs.lemmas.List.{take-append-drop}
use Rattle.std.proofs.lemmas.List.Elements.{All-cons, All-append, All-from_recursion}
use Rattle.schedule_text.specs.declared.line.Line.{Line}
use Rattle.plain_disk.specs.Honest.{is_honest, honest_part}
use Rattle.plain_disk.proofs.Honest.{honest_more}
use Rattle.report_rules.specs.Obeys.{Obeys}
use Rattle.report_rules.proofs.Obeys.{obeys_before}
use Rattle.request_check.specs.Rules.{KeepsRequests}
use Rattle.checked_rules.specs.declared.rule.Rule.{Rule}
use Rattle.checked_rules.specs.declared.rule.Rule.TheVariants as rule
use Rattle.checked_rules.specs.Rules.{IsOrderAt, InHonestPart, Keeps, KeepsEach, KeepsAll, ObeysEach, request_rules, move_rules}

-- ---- the honest part

first_honest : (a b c : Bool) → (a && b) && c ≡ true → (a ≡ true) × (b && c ≡ true)
first_honest true b c all = (refl, all)
first_honest false b c all = absurd (true≢false (sym all))

both_honest : (a b : Bool) → a && b ≡ true → (a ≡ true) × (b ≡ true)
both_honest true b all = (refl, all)
both_honest false b all = absurd (true≢false (sym all))

-- a report that no hostile hand touched is its own honest part
pub honest_whole : (report : List Line) → list_all is_honest report ≡ true → honest_part report ≡ report
honest_whole [] honest = refl
honest_whole (line ∷ rest) honest =
    let both = both_honest (is_honest line) (list_all is_honest rest) honest in
    honest_more line rest both.0 ∙ ap (λ (ls : List Line). line ∷ ls) (honest_whole rest both.1)

-- lines that are all honest are in the honest part
honest_split : (before after : List Line) (line : Line) → list_all is_honest before && is_honest line ≡ true → honest_part (before ++ line ∷ after) ≡ before ++ line ∷ honest_part after
honest_split [] after line honest = honest_more line after honest
honest_split (first ∷ before) after line honest =
    let both = first_honest (is_honest first) (list_all is_honest before) (is_honest line) honest in
    honest_more first (before ++ line ∷ after) both.0 ∙ ap (λ (ls : List Line). first ∷ ls) (honest_split before after line both.1)

requests_at : (report before after : List Line) (line : Line) → Obeys KeepsRequests (honest_part report) → report ≡ before ++ line ∷ after → InHonestPart KeepsRequests before line
requests_at report before after line requests is honest = requests before (honest_part after) line (ap honest_part is ∙ honest_split before after line honest)

-- ---- all

-- a line of the honest part keeps each rule on requests, and any other line too
requests_kept : (before : List Line) (line : Line) → InHonestPart KeepsRequests before line → KeepsEach request_rules before line
requests_kept before line requests =
    All-from_recursion (λ (r : Rule). Keeps r before line) request_rules
    (λ honest. (requests honest).state, (λ honest. (requests honest).submit, (λ honest. (requests honest).refuse, (λ honest. (requests honest).effect, (λ honest. (requests honest).barrier, (λ honest. (requests honest).service, (λ honest. (requests honest).reply, (λ honest. (requests honest).answer, (λ honest. (requests honest).told, (λ honest. (requests honest).quiet, tt))))))))))

pub honest_part_legal : (report : List Line) → Obeys IsOrderAt report → Obeys KeepsRequests (honest_part report) → ObeysEach move_rules report → Obeys KeepsAll report
honest_part_legal report order requests moves before after line is =
    let P = λ (r : Rule). Keeps r before line in
    All-cons P rule.Order (request_rules ++ move_rules) (order before after line is)
    (All-append P request_rules move_rules
    (requests_kept before line (requests_at report before after line requests is))
    (λ k r within. moves k r within before after line is))

pub kept_legal : (report : List Line) → Obeys IsOrderAt report → Obeys KeepsRequests report → ObeysEach move_rules report → Obeys KeepsAll report
kept_legal report order requests moves =
    let honest = prefix_len is_honest report in
    let whole : report ≡ honest_part report ++ drop honest report = sym (take-append-drop honest report) in
    honest_part_legal report order (obeys_before KeepsRequests (honest_part report) (drop honest report) (subst (λ (ls : List Line). Obeys KeepsRequests ls) whole requests)) moves
