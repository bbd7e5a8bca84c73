-- How the fields of a job stand for what contracts see of it.
use Rattle.back_jobs.specs.declared.held_job.HeldJob.TheInside.{Inside}
use Rattle.back_jobs.specs.Work.{Work}

abbrev pub view_of : Inside → Work
view_of t = record {
  number = t.number;
  id = t.id;
  op = t.op;
  writes = t.writes;
  size = t.size;
  disk = t.disk;
  moved = t.moved;
  rest = t.rest.items;
  pages = t.pages.items;
  named = t.named;
  within = t.within;
  words = t.words;
  stage = t.stage;
}
