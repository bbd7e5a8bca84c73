-- The lines that show what is in a ring: words and decimal numbers with single spaces between them, each line with its line feed.
use Rattle.std.specs.Prelude.{ℕ, ◌+◌, ◌/◌, List, [], ◌∷◌, ◌++◌, min, take, codes, decimal}
use Rattle.std.specs.List.{flat_map}
use Rattle.blk_layout.specs.declared.segment.Segment.{Segment}
use Rattle.blk_layout.specs.declared.request.RawRequest.{RawRequest}
use Rattle.blk_layout.specs.declared.request.RawRequest.TheVariants.{Direct, Discard, Indirect}

abbrev pub line_feed : List ℕ
line_feed = 10 ∷ []

abbrev pub indices_text : ℕ → ℕ → ℕ → ℕ → List ℕ
indices_text req_prod req_event rsp_prod rsp_event =
    codes "indices " ++ decimal req_prod ++ codes " " ++ decimal req_event ++ codes " " ++ decimal rsp_prod ++ codes " " ++ decimal rsp_event ++ line_feed

abbrev pub entries_text : ℕ → List ℕ
entries_text entries = codes "entries " ++ decimal entries ++ line_feed

abbrev pub overrun_text : ℕ → List ℕ
overrun_text count = codes "overrun " ++ decimal count ++ line_feed

abbrev pub requests_text : ℕ → List ℕ
requests_text count = codes "requests " ++ decimal count ++ line_feed

abbrev pub segment_text : Segment → List ℕ
segment_text s = codes "segment " ++ decimal s.gref ++ codes " " ++ decimal s.first ++ codes " " ++ decimal s.last ++ line_feed

abbrev pub page_text : ℕ → List ℕ
page_text gref = codes "page " ++ decimal gref ++ line_feed

-- a request's own line
abbrev pub request_line : ℕ → RawRequest → List ℕ
request_line index (Direct op count device id sector segments) =
    codes "request " ++ decimal index ++ codes " op " ++ decimal op ++ codes " count " ++ decimal count ++ codes " device " ++ decimal device ++ codes " id " ++ decimal id ++ codes " sector " ++ decimal sector ++ line_feed
request_line index (Discard flag device id sector count) =
    codes "request " ++ decimal index ++ codes " op 5 flag " ++ decimal flag ++ codes " device " ++ decimal device ++ codes " id " ++ decimal id ++ codes " sector " ++ decimal sector ++ codes " count " ++ decimal count ++ line_feed
request_line index (Indirect op count device id sector pages) =
    codes "request " ++ decimal index ++ codes " op 6 inner " ++ decimal op ++ codes " count " ++ decimal count ++ codes " device " ++ decimal device ++ codes " id " ++ decimal id ++ codes " sector " ++ decimal sector ++ line_feed

-- the lines of what it names: as many segments as it counts, at most 11, or the pages that so many segments take at 512 a page, at most 8
abbrev pub named_lines : RawRequest → List ℕ
named_lines (Direct op count device id sector segments) = flat_map segment_text (take (min count 11) segments)
named_lines (Discard flag device id sector count) = []
named_lines (Indirect op count device id sector pages) = flat_map page_text (take (min ((count + 511) / 512) 8) pages)

abbrev pub request_text : ℕ → RawRequest → List ℕ
request_text index raw = request_line index raw ++ named_lines raw
