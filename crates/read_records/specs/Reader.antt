-- Readers, and the order in which they are told: targets by their shapes, then pairs by shape and node.
use Rattle.std.specs.Prelude.{ℕ, Bool, ◌&&◌, ◌==◌}
use Rattle.std.specs.declared.cmp.Ordering.{Ordering}
use Rattle.std.specs.Ordering.{nat_cmp, ordering_then}
use Rattle.read_records.specs.declared.reader.Reader.{Reader}
use Rattle.read_records.specs.declared.reader.Reader.TheVariants.{OfTarget, OfPair}

-- what readers are compared by, one after the other
abbrev pub reader_kind : Reader → ℕ
reader_kind (OfTarget shape) = 0
reader_kind (OfPair pair) = 1

abbrev pub reader_shape : Reader → ℕ
reader_shape (OfTarget shape) = shape
reader_shape (OfPair pair) = pair.shape

abbrev pub reader_node : Reader → ℕ
reader_node (OfTarget shape) = 0
reader_node (OfPair pair) = pair.node

abbrev pub same_reader : Reader → Reader → Bool
same_reader a b =
    (reader_kind a == reader_kind b)
    && ((reader_shape a == reader_shape b) && (reader_node a == reader_node b))

abbrev pub reader_cmp : Reader → Reader → Ordering
reader_cmp a b =
    ordering_then (nat_cmp (reader_kind a) (reader_kind b))
    (ordering_then (nat_cmp (reader_shape a) (reader_shape b)) (nat_cmp (reader_node a) (reader_node b)))
