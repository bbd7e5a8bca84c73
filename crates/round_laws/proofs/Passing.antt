-- What passes by happenings one after another: moves alone are shown, and no disk is called.
use Rattle.std.proofs.Common.{◌≡◌, List, [], ◌∷◌, ◌++◌, refl, sym, ap, ◌∙◌, subst}
use Rattle.std.specs.List.{AllByRecursion}
use Rattle.std.proofs.lemmas.List.{append-nil}
use Rattle.blk_io.specs.Disk.{DiskSeen}
use Rattle.schedule_text.specs.declared.line.Line.{Line}
use Rattle.vbd_model.specs.World.{World}
use Rattle.vbd_model.specs.Happening.{Happening, happens, after, lines_at, lines_of, DiskGoes, DiskRuns}
use Rattle.vbd_model.proofs.Running.{after-append, lines_of-append, disk_runs-append}
use Rattle.round_laws.specs.AtOnce.{IsMoveLine, Passes}

pub all_of : (P : Line → Type 0) (xs ys : List Line) → AllByRecursion P xs → AllByRecursion P ys → AllByRecursion P (xs ++ ys)
all_of P [] ys first rest = rest
all_of P (x ∷ xs) ys first rest = (first.0, all_of P xs ys first.1 rest)

pub passes_none : (w v : World) → w ≡ v → Passes [] w v
passes_none w v same = record { world = same; shown = tt; disk = λ d. refl }

pub passes_one : (w v : World) (h : Happening) → happens w h ≡ v → AllByRecursion IsMoveLine (lines_at w h) → ((d : DiskSeen) → DiskGoes w h d d) → Passes (h ∷ []) w v
passes_one w v h same shown goes = record { world = same; shown = subst (AllByRecursion IsMoveLine) (sym (append-nil (lines_at w h))) shown; disk = λ d. (d, goes d, refl) }

pub passes_on : (xs ys : List Happening) (a b c : World) → Passes xs a b → Passes ys b c → Passes (xs ++ ys) a c
passes_on xs ys a b c first rest = record {
  world = after-append xs ys a ∙ (ap (after ys) first.world ∙ rest.world);
  shown = subst (AllByRecursion IsMoveLine) (sym (lines_of-append xs ys a))
      (all_of IsMoveLine (lines_of xs a) (lines_of ys (after xs a)) first.shown (subst (λ (w : World). AllByRecursion IsMoveLine (lines_of ys w)) (sym first.world) rest.shown));
  disk = λ d. disk_runs-append xs ys a d d d (first.disk d) (subst (λ (w : World). DiskRuns ys w d d) (sym first.world) (rest.disk d));
}

pub passes_to : (xs : List Happening) (a b c : World) → b ≡ c → Passes xs a b → Passes xs a c
passes_to xs a b c same first = subst (Passes xs a) same first
