-- How long texts are at most.
use Rattle.std.proofs.Common.{◌≡◌, ℕ, ◌*◌, ◌≤◌, List, [], ◌∷◌, length, Option, Some, None, refl, ap, arith, length-append}
use Rattle.std.specs.Int.{w32, to_be_bytes}
use Rattle.std.specs.List.{flat_map, AllByRecursion}
use Rattle.std.proofs.lemmas.List.Concat.{flat_map-cons}
use Rattle.bg_board.specs.FromTo.{FromTo}
use Rattle.bg_turns.specs.Turn.{IsTurn}
use Rattle.bg_match.specs.Entry.{IsEntry, IsAction}
use Rattle.bg_match.specs.declared.actions.Action.{Action}
use Rattle.bg_match.specs.declared.actions.Action.TheVariants as action
use Rattle.bg_match.specs.declared.entries.Entry.{Entry}
use Rattle.bg_match.specs.declared.entries.Entry.TheVariants as entry
use Rattle.bg_wire.specs.declared.packets.Packet.{Packet}
use Rattle.bg_wire.specs.declared.packets.Packet.TheVariants as packet
use Rattle.bg_wire.specs.Entries.EntryText.{step_bytes, turn_bytes, action_bytes, entry_bytes, entries_bytes}
use Rattle.bg_wire.specs.Packets.PacketText.{packet_text, IsPacket}
use Rattle.bg_wire.specs.Entries.Codes.{longest_packet, longest_saved_text}
use Rattle.bg_wire.specs.Saved.SavedReading.{front_of, text_of_front}
use Rattle.bg_wire.specs.Saved.SavedLayouts.{claim_text}
use Rattle.bg_wire.specs.declared.saves.layouts.Layout.TheVariants.{Two}
use Rattle.bg_wire.specs.Saved.SavedText.{SavedParts, saved_text, IsClaimOf, IsInLayout}
use Rattle.bg_wire.proofs.ToldEntries.{all_told_of}

pub length-steps : (steps : List FromTo) → length (flat_map step_bytes steps) ≡ 2 * length steps
length-steps [] = refl
length-steps (step ∷ steps) = omega (arith, ap length (flat_map-cons step_bytes step steps), length-steps steps)

length-turn_text : (steps : List FromTo) → IsTurn steps → length (turn_bytes steps) ≤ 9
length-turn_text steps turn = omega (arith, length-steps steps, turn.few)

length-action_text : (a : Action) → IsAction a → length (action_bytes a) ≤ 10
length-action_text (action.Move turn) h = omega (arith, length-turn_text turn h)
length-action_text action.Roll h = omega arith
length-action_text action.Double h = omega arith
length-action_text action.Take h = omega arith
length-action_text action.Drop h = omega arith
length-action_text (action.Resign level) h = omega arith
length-action_text action.Accept h = omega arith
length-action_text action.Reject h = omega arith

length-entry_text : (e : Entry) → IsEntry e → length (entry_bytes e) ≤ 10
length-entry_text (entry.Moved turn) h = omega (arith, length-turn_text turn h)
length-entry_text (entry.Opening x o) h = omega arith
length-entry_text (entry.Rolled dice) h = omega arith
length-entry_text entry.Doubled h = omega arith
length-entry_text entry.Taken h = omega arith
length-entry_text entry.Dropped h = omega arith
length-entry_text (entry.Resigned level) h = omega arith
length-entry_text entry.Accepted h = omega arith
length-entry_text entry.Rejected h = omega arith
length-entry_text entry.Passed h = omega arith

pub length-entries_text : (entries : List Entry) → AllByRecursion IsEntry entries
    → length (entries_bytes entries) ≤ 10 * length entries
length-entries_text [] h = omega arith
length-entries_text (e ∷ entries) h =
    let first = ap length (flat_map-cons entry_bytes e entries) in
    let both = length-append (entry_bytes e) (entries_bytes entries) in
    omega (arith, first, both, length-entry_text e h.0, length-entries_text entries h.1)

pub length-packet_text : (p : Packet) → IsPacket p → length (packet_text p) ≤ longest_packet
length-packet_text (packet.Want id rules sender held) h = omega arith
length-packet_text (packet.Claim id rules sender number action) h =
    omega (arith, length-action_text action h.action_in_range)
length-packet_text (packet.Entries id rules start list) h = omega (arith, length-entries_text list h.in_range, h.few)

length-claim_text : (party : ℕ) (claim : Option (ℕ × Action)) → IsClaimOf party claim
    → length (claim_text Two claim) ≤ 15
length-claim_text party None h = omega arith
length-claim_text party (Some claim) h = omega (arith, length-action_text claim.1 h.1.2)

length-front_text : (p : SavedParts) → IsInLayout Two p → length (text_of_front (front_of Two p)) ≤ 38
length-front_text p h =
    let behind_save = length-append (claim_text Two p.claim) (to_be_bytes w32 (length p.entries)) in
    omega (arith, behind_save, length-claim_text p.party p.claim h.claim)

-- the text that is written
pub length-saved_text : (p : SavedParts) → IsInLayout Two p → length (saved_text Two p) ≤ longest_saved_text
length-saved_text p h =
    let all = length-append (text_of_front (front_of Two p)) (entries_bytes p.entries) in
    let told = all_told_of Two p.entries h.in_range in
    omega (arith, all, length-front_text p h, length-entries_text p.entries told, h.few)
