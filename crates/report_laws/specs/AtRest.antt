-- What a quiet machine leaves in its ring (`io/ring.h`: req_prod is word 0 of the ring's first page and rsp_prod word 2; that page is frame 2).
use Rattle.std.specs.Prelude.{◌≡◌, ◌≢◌, []}
use Rattle.xen_pages.specs.Pages.{word_of}
use Rattle.split_model.specs.World.{World}

-- each request that was pushed was fetched and has its response, and each response was read
pub record IsReadRing (w : World) : Type 0 where
  pub served : word_of w.under.pages 2 0 ≡ word_of w.under.pages 2 2
  pub fetched : w.back.ring.indices.cons ≡ word_of w.under.pages 2 0
  pub read : w.front.ring.indices.cons ≡ word_of w.under.pages 2 2

-- so it is where the front made its port in this epoch, and so a ring before it; no job is held, and no request that was accepted is left
pub record IsAtRest (w : World) : Type 0 where
  pub ring : w.under.channels.ports ≢ [] → IsReadRing w
  pub no_job : w.back.jobs.works ≡ []
  pub no_request : w.front.requests ≡ []
