-- Postings: the numbers of a key and of one of its readers, without their kinds, and the order in which they
-- stand.
use Rattle.std.specs.Prelude.{◌≡◌, ◌<◌, ◌^◌, ◌↔◌, List, Contains}
use Rattle.std.specs.declared.cmp.Ordering.{Ordering}
use Rattle.std.specs.Ordering.{nat_cmp, ordering_then}
use Rattle.graph_view.specs.declared.key.Key.{Key}
use Rattle.graph_view.specs.Key.{key_first, key_second}
use Rattle.read_records.specs.declared.posting.Place.{Place}
use Rattle.read_records.specs.declared.posting.Posting.{Posting}
use Rattle.read_records.specs.declared.posting.Whom.{Whom}
use Rattle.read_records.specs.declared.reader.Reader.{Reader}
use Rattle.read_records.specs.Reader.{reader_node, reader_shape}

abbrev pub place : Key → Place
place key = record { first = key_first key; second = key_second key }

abbrev pub whom : Reader → Whom
whom reader = record { shape = reader_shape reader; node = reader_node reader }

abbrev pub posting : Place → Whom → Posting
posting at who = record { place = at; whom = who }

-- postings compare by their keys, and then by their readers
abbrev pub place_cmp : Place → Place → Ordering
place_cmp a b = ordering_then (nat_cmp a.first b.first) (nat_cmp a.second b.second)

abbrev pub whom_cmp : Whom → Whom → Ordering
whom_cmp a b = ordering_then (nat_cmp a.shape b.shape) (nat_cmp a.node b.node)

abbrev pub posting_cmp : Posting → Posting → Ordering
posting_cmp x y = ordering_then (place_cmp x.place y.place) (whom_cmp x.whom y.whom)

-- the numbers of its reader have 32 bits
pub record HasNumbers (x : Posting) : Type 0 where
  pub shape : x.whom.shape < 2 ^ 32
  pub node : x.whom.node < 2 ^ 32

-- all but one is left
pub record IsWithout (old new : List Posting) (gone : Posting) : Type 0 where
  pub each : (x : Posting) → Contains new x ↔ (Contains old x × (x ≡ gone → ⊥))
