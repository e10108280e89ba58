-- How a link in memory keeps the texts that were sent to each party.
use Rattle.std.specs.Prelude.{◌≡◌, ◌≤◌, ℕ, ◌+◌, ◌-◌, List, [], ◌∷◌, Option, Some, None, drop, map, slice_get, take}
use Rattle.bg_wire.specs.declared.packets.Datagram.{Datagram}
use Rattle.bg_protocol.specs.Devices.Handed.{sent_to}

-- ---- an inbox has its texts one behind the other, and where each of them ends

-- the most bytes of a text
abbrev pub text_size : ℕ
text_size = 128

-- the bytes from here up to there
abbrev pub text_between : ℕ → ℕ → List ℕ → List ℕ
text_between from to bytes = take (to - from) (drop from bytes)

-- the texts that end there, where the first of them begins here
abbrev pub texts_from : ℕ → List ℕ → List ℕ → List (List ℕ)
texts_from from [] bytes = []
texts_from from (end ∷ ends) bytes = text_between from end bytes ∷ texts_from end ends bytes

-- the texts end there in this order, none has more bytes than a text may have, and the last ends
-- with the bytes
abbrev pub AreEnds : ℕ → List ℕ → ℕ → Type 0
AreEnds from [] count = from ≡ count
AreEnds from (end ∷ ends) count = (from ≤ end) × (end ≤ from + text_size) × AreEnds end ends count

-- ---- each party has an inbox

abbrev pub texts_in : Option (List (List ℕ)) → List (List ℕ)
texts_in None = []
texts_in (Some texts) = texts

-- the texts in the inbox of a party; there are none where it has no inbox
abbrev pub inbox_at : List (List (List ℕ)) → ℕ → List (List ℕ)
inbox_at inboxes party = texts_in (slice_get inboxes party)

-- the texts that were sent to the party, the oldest first
abbrev pub texts_to : ℕ → List Datagram → List (List ℕ)
texts_to party sent = map (λ datagram. datagram.bytes) (sent_to party sent)

-- each party's inbox has the texts that were sent to it
abbrev pub AreInboxesOf : List Datagram → List (List (List ℕ)) → Type 0
AreInboxesOf sent inboxes = (party : ℕ) → inbox_at inboxes party ≡ texts_to party sent
