-- The tests of answers decide what the back, its jobs and the front say of them.
use Rattle.std.proofs.Common.{◌≡◌, ℕ, true, false, ◌==◌, Decides, refl}
use Rattle.std.proofs.lemmas.Bool.Decides.{Decides-and, Decides-eqb}
use Rattle.blk_base.specs.declared.parts.Mapping.{Mapping}
use Rattle.blk_base.specs.declared.parts.Mode.{Mode}
use Rattle.blk_base.specs.declared.parts.Mode.TheVariants.{ReadOnly, ReadWrite}
use Rattle.blk_base.specs.declared.ask.BackAsk.{BackAsk}
use Rattle.blk_base.specs.declared.ask.BackAsk.TheVariants as ask
use Rattle.blk_base.specs.declared.ask.BackAnswer.{BackAnswer}
use Rattle.blk_base.specs.declared.ask.BackAnswer.TheVariants.{Event, Watched, Done, Word, Mapped, MapRefused, BindRefused, Key, Sector, DiskFailed}
use Rattle.blk_base.specs.declared.ask.FrontAsk.{FrontAsk}
use Rattle.blk_base.specs.declared.ask.FrontAsk.TheVariants as front_ask
use Rattle.blk_base.specs.declared.ask.FrontAnswer.{FrontAnswer}
use Rattle.blk_base.specs.declared.ask.FrontAnswer.TheVariants as front_given
use Rattle.back_jobs.specs.Work as jobs
use Rattle.vbd_back.specs.Ask as back
use Rattle.vbd_front.specs.Ask as front
use Rattle.vbd_c.specs.Allowed.{is_same_mode, is_of, back_allows, job_allows, front_allows}

yes : Decides true (Unit {0})
yes = (λ e. tt, λ t. refl)

no : Decides false ⊥
no = (λ e. cc, λ h. absurd h)

same_mode : (a b : Mode) → Decides (is_same_mode a b) (a ≡ b)
same_mode ReadOnly ReadOnly = (λ e. refl, λ e. refl)
same_mode ReadWrite ReadWrite = (λ e. refl, λ e. refl)
same_mode ReadOnly ReadWrite = (λ e. cc, λ e. cc)
same_mode ReadWrite ReadOnly = (λ e. cc, λ e. cc)

mapping_of : (m : Mapping) (gref : ℕ) (mode : Mode) → Decides (is_of m gref mode) ((m.gref ≡ gref) × (m.mode ≡ mode))
mapping_of m gref mode = Decides-and (m.gref == gref) (is_same_mode m.mode mode) (Decides-eqb m.gref gref) (same_mode m.mode mode)

pub back_means : (a : BackAsk) (given : BackAnswer) → Decides (back_allows a given) (back.IsAnswer a given)
back_means ask.Wait Event = yes
back_means ask.Wait (Watched path) = yes
back_means ask.Fence Done = yes
back_means (ask.Read m word) (Word value) = yes
back_means (ask.Write m word value) Done = yes
back_means (ask.Map gref mode) (Mapped m) = mapping_of m gref mode
back_means (ask.Map gref mode) (MapRefused status) = yes
back_means (ask.Unmap m) Done = yes
back_means (ask.Bind port) Done = yes
back_means (ask.Bind port) BindRefused = yes
back_means ask.Send Done = yes
back_means ask.ClosePort Done = yes
back_means (ask.GetKey path) (Key text) = yes
back_means (ask.SetKey path text) Done = yes
back_means (ask.Watch path) Done = yes
back_means a given = no

pub job_means : (a : BackAsk) (given : BackAnswer) → Decides (job_allows a given) (jobs.IsAnswer a given)
job_means (ask.Read m word) (Word value) = yes
job_means (ask.Write m word value) Done = yes
job_means (ask.Map gref mode) (Mapped m) = mapping_of m gref mode
job_means (ask.Map gref mode) (MapRefused status) = yes
job_means (ask.Unmap m) Done = yes
job_means (ask.DiskRead sector) (Sector words) = yes
job_means (ask.DiskRead sector) DiskFailed = yes
job_means (ask.DiskWrite sector words) Done = yes
job_means (ask.DiskWrite sector words) DiskFailed = yes
job_means ask.Flush Done = yes
job_means ask.Flush DiskFailed = yes
job_means (ask.Trim sector count) Done = yes
job_means (ask.Trim sector count) DiskFailed = yes
job_means a given = no

pub front_means : (a : FrontAsk) (given : FrontAnswer) → Decides (front_allows a given) (front.IsAnswer a given)
front_means front_ask.Wait front_given.Event = yes
front_means front_ask.Wait (front_given.Watched path) = yes
front_means front_ask.Fence front_given.Done = yes
front_means (front_ask.Read frame word) (front_given.Word value) = yes
front_means (front_ask.Write frame word value) front_given.Done = yes
front_means (front_ask.Cas frame word old new) (front_given.Word seen) = yes
front_means front_ask.NewPort (front_given.Port port) = yes
front_means front_ask.Send front_given.Done = yes
front_means front_ask.ClosePort front_given.Done = yes
front_means (front_ask.GetKey path) (front_given.Key text) = yes
front_means (front_ask.SetKey path text) front_given.Done = yes
front_means (front_ask.Watch path) front_given.Done = yes
front_means a given = no
