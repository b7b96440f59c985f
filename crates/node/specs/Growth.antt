-- The tree that events make (N3): the children of a collection are the nodes completed directly under it, in the order of the events. It goes
-- by what an event does to the tree and by nothing else; the completed nodes come one by one from a list, the order of their completion.
-- What each of them is, an array, a hash, an alias or a scalar, is also said by the events alone (`completions`).
use Rattle.std.specs.Prelude.{cond, ◌≡◌, ℕ, zero, suc, ◌≤◌, List, [], ◌∷◌, ltb, length, Result, Ok, Err}
use Rattle.event.specs.Read.{read_event}
use Rattle.event.specs.declared.malformed.Malformed.{Malformed}
use Rattle.event.specs.declared.read.Event.{Event}
use Rattle.event.specs.declared.read.Event.TheVariants.{SequenceStart, SequenceEnd, MappingStart, MappingEnd, Scalar, Alias}
use Rattle.parser.specs.Machine.{next_place}
use Rattle.records.specs.declared.record.Node.{Node}
use Rattle.records.specs.Forest.{Forest, nil, snoc}

-- ---- what events do

-- what a node is
pub data Shape : Type 0 where
  scalar : Shape
  alias : Shape
  array : Shape
  hash : Shape

pub data Effect : Type 0 where
  opening : Effect
  -- the innermost collection is complete, an array or a hash
  closing : Shape → Effect
  -- a scalar or an alias
  leaf : Shape → Effect
  faulty : Effect

-- what was read, an event and the place after it
abbrev pub effect_of : Result (Event × ℕ) Malformed → Effect
effect_of (Ok (SequenceStart index tag, next)) = opening
effect_of (Ok (SequenceEnd index, next)) = closing array
effect_of (Ok (MappingStart index tag, next)) = opening
effect_of (Ok (MappingEnd index, next)) = closing hash
effect_of (Ok (Scalar index column style empty_span tag value, next)) = leaf scalar
effect_of (Ok (Alias index, next)) = leaf alias
effect_of (Err e) = faulty

-- of the events from the place i on; each takes a byte or more, and no more than f are read
unfoldable pub effects_from : List ℕ → ℕ → ℕ → List Effect
effects_from events zero i = []
effects_from events (suc f) i = cond (ltb i (length events)) (effect_of (read_event events i) ∷ effects_from events f (next_place (read_event events i))) []

abbrev pub effects : List ℕ → List Effect
effects events = effects_from events (length events) 0

-- ---- growth: the trees so far in each open collection, the innermost first, and last those outside all of them

-- the node x, with these children, is complete
abbrev pub with_tree : Node → Forest → List Forest → List Forest
with_tree x kids [] = []
with_tree x kids (f ∷ fs) = snoc f x kids ∷ fs

-- the innermost collection is complete, and its node is x
abbrev pub close_top : Node → List Forest → List Forest
close_top x [] = []
close_top x (kids ∷ fs) = with_tree x kids fs

unfoldable pub growth : List Effect → List Node → List Forest → List Forest
growth [] xs fs = fs
growth (opening ∷ es) xs fs = growth es xs (nil ∷ fs)
growth (closing s ∷ es) [] fs = fs
growth (closing s ∷ es) (x ∷ xs) fs = growth es xs (close_top x fs)
growth (leaf s ∷ es) [] fs = fs
growth (leaf s ∷ es) (x ∷ xs) fs = growth es xs (with_tree x nil fs)
growth (faulty ∷ es) xs fs = fs

-- what these events leave, whose nodes are completed in this order: of a document, one tree and no open collection
abbrev pub tree_of : List ℕ → List Node → List Forest
tree_of events xs = growth (effects events) xs (nil ∷ [])

-- ---- what is completed

abbrev pub shapes : List Effect → List Shape
shapes [] = []
shapes (opening ∷ es) = shapes es
shapes (closing s ∷ es) = s ∷ shapes es
shapes (leaf s ∷ es) = s ∷ shapes es
shapes (faulty ∷ es) = []

-- the shapes of the nodes that these events complete, in the order of their completion
abbrev pub completions : List ℕ → List Shape
completions events = shapes (effects events)

-- its kind (E2), and, where no scalar's event completes it, that its span counts as measured (02, (c))
abbrev pub HasShape : Shape → Node → Type 0
HasShape scalar x = (1 ≤ x.kind) × (x.kind ≤ 6)
HasShape alias x = (x.kind ≡ 1) × (x.measured ≡ 1)
HasShape array x = (x.kind ≡ 7) × (x.measured ≡ 1)
HasShape hash x = (x.kind ≡ 8) × (x.measured ≡ 1)
