-- Event bytes as a list of events (E1, R3): the encodings of sound events, one after the other. Of any bytes so many stand from the front as
-- there are: `front_of` (proofs/EventListLaws.antt).
use Rattle.std.specs.Prelude.{ℕ, ◌<◌, ◌≡◌, ◌⊎◌, List, [], ◌∷◌, ◌++◌, length}
use Rattle.event.specs.Encode.{YamlEvent, encode_event, SoundEvent}
use Rattle.event.specs.Meaning.{StandsAt}

unfoldable pub encode_events : List YamlEvent → List ℕ
encode_events [] = []
encode_events (e ∷ es) = encode_event e ++ encode_events es

unfoldable pub AllSound : List YamlEvent → Type 0
AllSound [] = Unit {0}
AllSound (e ∷ es) = SoundEvent e × AllSound es

-- the sound events that stand in s from its front: all of s, or none stands next
pub record Front (s : List ℕ) : Type 0 where
  pub events : List YamlEvent
  pub sound : AllSound events
  pub rest : List ℕ
  pub bytes : s ≡ encode_events events ++ rest
  pub ends : (rest ≡ []) ⊎ ((0 < length rest) × ((e : YamlEvent) → StandsAt s (length (encode_events events)) e → ⊥))
