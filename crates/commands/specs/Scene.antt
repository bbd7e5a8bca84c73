-- What lies outside the program at a moment, and what of it a run is given.
use Rattle.std.specs.Prelude.{ℕ, Bool, false, not, List, Some}
use Rattle.std.specs.Borrow.{GName}
use Rattle.blk_base.specs.Options.{Options}
use Rattle.blk_base.specs.declared.operation.Abi.TheVariants.{X64}
use Rattle.blk_io.specs.Outside.{SourceSeen, SinkSeen}
use Rattle.blk_io.specs.Disk.{Attachment, DiskSeen}
use Rattle.schedule_text.specs.declared.line.Detail.{Detail}
use Rattle.schedule_text.specs.declared.line.Detail.TheVariants.{Lines}
use Rattle.commands.specs.declared.words.RunOptions.{RunOptions}
use Rattle.schedule_text.specs.Recorders.{writing}
use Rattle.schedule_run.specs.Outcome.{Outside, outside}

-- what input, image and output expose
pub record Scene : Type 0 where
  pub source : SourceSeen
  pub disk : DiskSeen
  pub output : SinkSeen

abbrev pub scene : SourceSeen → DiskSeen → SinkSeen → Scene
scene source disk output = record { source = source; disk = disk; output = output }

-- the options of a run that were asked for, on an image of so many sectors
abbrev pub options_of : RunOptions → ℕ → Options
options_of options sectors = record { abi = options.abi; order = options.order; persistent = 0; indirect = options.indirect; start = options.start; read_only = options.read_only; sectors = sectors }

-- without any, no moves are shown, the layout is that of x86_64, the ring has one page and begins at 0, no request has indirect pages, and the disk may be written
abbrev pub no_options : RunOptions
no_options = record { detail = Lines; abi = X64; order = 0; start = 0; indirect = 0; read_only = false }

-- a schedule has fewer bytes than this
abbrev pub bytes_limit : ℕ
bytes_limit = 4294967296

-- the image of that name, for writing unless it is read-only
abbrev pub image_named : List ℕ → Bool → ℕ → Attachment
image_named name read_only sectors = record { name = name; writable = not read_only; sectors = sectors }

-- the disk with that image attached
abbrev pub with_image : List ℕ → Bool → ℕ → DiskSeen → DiskSeen
with_image name read_only sectors disk = record disk { attachment = Some (image_named name read_only sectors) }

-- a disk and a report that goes to the output, line by line
abbrev pub reporting : Detail → GName → DiskSeen → SinkSeen → Outside
reporting detail lender disk output = outside disk (writing detail lender output)
