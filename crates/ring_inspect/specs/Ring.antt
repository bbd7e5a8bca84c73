-- What a ring's bytes hold, and its text.
use Rattle.std.specs.Prelude.{ℕ, zero, suc, ◌+◌, ◌*◌, ◌%◌, ◌^◌, List, [], ◌∷◌, ◌++◌, slice_index, nat_lt, if◌then◌else◌}
use Rattle.blk_base.specs.Distance.{distance_of}
use Rattle.blk_layout.specs.declared.request.RawRequest.{RawRequest}
use Rattle.blk_layout.specs.Entry.{request_of}
use Rattle.ring_words.specs.Shape.{Shape, entries_of, entry_words_of, ring_word_of}
use Rattle.ring_inspect.specs.Text.{indices_text, entries_text, overrun_text, requests_text, request_text}

-- word `at` of the ring: four bytes, the lowest first
abbrev pub word_of : List ℕ → ℕ → ℕ
word_of bytes at = slice_index bytes (4 * at) + 2 ^ 8 * slice_index bytes (4 * at + 1) + 2 ^ 16 * slice_index bytes (4 * at + 2) + 2 ^ 24 * slice_index bytes (4 * at + 3)

-- `count` words from this one on
unfoldable pub words_from : List ℕ → ℕ → ℕ → List ℕ
words_from bytes at zero = []
words_from bytes at (suc count) = word_of bytes at ∷ words_from bytes (at + 1) count

-- the request in the entry of an index
abbrev pub request_at : Shape → List ℕ → ℕ → RawRequest
request_at shape bytes index = request_of shape.abi (words_from bytes (ring_word_of shape index 0) (entry_words_of shape.abi))

-- the text of the first `count` requests from an index on, in order
unfoldable pub listed : Shape → List ℕ → ℕ → ℕ → List ℕ
listed shape bytes from zero = []
listed shape bytes from (suc count) =
    listed shape bytes from count ++ request_text ((from + count) % 2 ^ 32) (request_at shape bytes ((from + count) % 2 ^ 32))

-- what follows the number of entries: how far the requests' producer is ahead of the responses', and the requests between them; nothing more where it is further ahead than there are entries
abbrev pub body_text : Shape → List ℕ → ℕ → ℕ → List ℕ
body_text shape bytes rsp_prod count =
    if nat_lt (entries_of shape.order) count
    then overrun_text count
    else requests_text count ++ listed shape bytes rsp_prod count

-- the text of a ring: words 0 to 3 are req_prod, req_event, rsp_prod and rsp_event (`io/ring.h`)
abbrev pub ring_text : Shape → List ℕ → List ℕ
ring_text shape bytes =
    indices_text (word_of bytes 0) (word_of bytes 1) (word_of bytes 2) (word_of bytes 3)
    ++ entries_text (entries_of shape.order)
    ++ body_text shape bytes (word_of bytes 2) (distance_of (word_of bytes 2) (word_of bytes 0))
