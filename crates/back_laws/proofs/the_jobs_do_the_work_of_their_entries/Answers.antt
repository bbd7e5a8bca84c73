use Rattle.back_laws.proofs.PageWork.{do_their_work, requests_worked, replies_last}
use Rattle.back_laws.proofs.the_jobs_do_the_work_of_their_entries.Goals as goal

pub returns : goal.returns
returns c = record { work = do_their_work; requests = requests_worked; last = replies_last }
