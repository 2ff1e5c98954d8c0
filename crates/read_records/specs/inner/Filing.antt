-- Readings: a key and one of its readers; where it is filed by their kinds, and what is filed.
use Rattle.std.specs.Prelude.{◌≡◌, ◌↔◌, ◌⊎◌, List, [], Contains}
use Rattle.graph_view.specs.declared.key.Key.{Key}
use Rattle.graph_view.specs.declared.key.Key.TheVariants.{Out, In, Subject, Predicate, Answer}
use Rattle.graph_view.specs.Key.{key_kind}
use Rattle.read_records.specs.declared.by_kind.ByKind.{ByKind}
use Rattle.read_records.specs.declared.posting.Posting.{Posting}
use Rattle.read_records.specs.declared.reader.Reader.{Reader}
use Rattle.read_records.specs.declared.reader.Reader.TheVariants.{OfTarget, OfPair}
use Rattle.read_records.specs.inner.Postings.{place, posting, whom}

pub record Reading : Type 0 where
  pub key : Key
  pub reader : Reader

abbrev pub reading : Key → Reader → Reading
reading key reader = record { key = key; reader = reader }

-- ---- where a reading is filed

-- postings of targets, and of pairs, by the kinds of their keys
pub record Filed : Type 0 where
  pub targets : ByKind (List Posting)
  pub pairs : ByKind (List Posting)

abbrev pub no_postings : ByKind (List Posting)
no_postings = record { out = []; into = []; subject = []; predicate = []; answer = [] }

abbrev pub nothing_filed : Filed
nothing_filed = record { targets = no_postings; pairs = no_postings }

-- those of the kind of a key
abbrev pub tree : Key → ByKind (List Posting) → List Posting
tree (Out s p) all = all.out
tree (In p o) all = all.into
tree (Subject s) all = all.subject
tree (Predicate p) all = all.predicate
tree (Answer shape node) all = all.answer

-- those of the kind of a reader
abbrev pub side : Reader → Filed → ByKind (List Posting)
side (OfTarget shape) all = all.targets
side (OfPair pair) all = all.pairs

abbrev pub filed_with : Reading → Filed → List Posting
filed_with x all = tree x.key (side x.reader all)

abbrev pub posting_of : Reading → Posting
posting_of x = posting (place x.key) (whom x.reader)

-- it is filed
abbrev pub Stands : Filed → Reading → Type 0
Stands all x = Contains (filed_with x all) (posting_of x)

-- no target has a node
pub record AreTargets (all : ByKind (List Posting)) : Type 0 where
  pub each : (key : Key) (x : Posting) → Contains (tree key all) x → x.whom.node ≡ 0

-- ---- what changes

-- those of the kind of a key changed in this way, and no others
pub record ChangesOne (Changes : List Posting → List Posting → Type 0) (old new : ByKind (List Posting))
    (key : Key) : Type 0 where
  pub there : Changes (tree key old) (tree key new)
  pub others : (other : Key) → (key_kind other ≡ key_kind key → ⊥) → tree other new ≡ tree other old

-- both have the same postings
pub record HoldSame (old new : ByKind (List Posting)) : Type 0 where
  pub each : (key : Key) (x : Posting) → Contains (tree key new) x ↔ Contains (tree key old) x

-- one more
pub record AddsOne (old new : Filed) (more : Reading) : Type 0 where
  pub each : (x : Reading) → Stands new x ↔ (Stands old x ⊎ (x ≡ more))

-- all but one is left
pub record IsLeft (old new : Filed) (gone : Reading) : Type 0 where
  pub each : (x : Reading) → Stands new x ↔ (Stands old x × (x ≡ gone → ⊥))

-- all that was there still is
pub record StaysIn (old new : Filed) : Type 0 where
  pub each : (x : Reading) → Stands old x → Stands new x

-- one reader may stand under some of these keys, and else nobody where they did not
pub record AddsSome (old new : Filed) (keys : List Key) (reader : Reader) : Type 0 where
  pub each : (x : Reading) → Stands new x → Stands old x ⊎ ((reader ≡ x.reader) × Contains keys x.key)

-- the reader stands under each of the keys
pub record StandsUnderEach (readings : Filed) (keys : List Key) (reader : Reader) : Type 0 where
  pub each : (key : Key) → Contains keys key → Stands readings (reading key reader)
