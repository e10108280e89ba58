-- The truth value whether a packet is of a match says what the relation says.
use Rattle.std.proofs.Common.{◌≡◌, ◌==◌, ℕ, true, false, refl, ap}
use Rattle.std.proofs.lemmas.Bool.{and_parts, eqb-true, eq-eqb, and_from}
use Rattle.bg_match.specs.declared.limits.Rules.{Rules}
use Rattle.bg_match.specs.declared.limits.Rules.TheVariants.{One, Two}
use Rattle.bg_wire.specs.Entries.Codes.{rules_code}
use Rattle.bg_wire.specs.Packets.PacketText.{IsOfMatch, id_of, is_of_match, packet_rules}
use Rattle.bg_wire.specs.declared.packets.Packet.{Packet}

same_rules : (a b : Rules) → (rules_code a == rules_code b) ≡ true → a ≡ b
same_rules One One h = refl
same_rules One Two h = cc
same_rules Two One h = cc
same_rules Two Two h = refl

pub of_match : (id : ℕ) (rules : Rules) (p : Packet) → is_of_match id rules p ≡ true → IsOfMatch id rules p
of_match id rules p h =
    let both = and_parts (id_of p == id) (rules_code (packet_rules p) == rules_code rules) h in
    (eqb-true _ _ both.0, same_rules (packet_rules p) rules both.1)

pub not_of_match : (id : ℕ) (rules : Rules) (p : Packet) → is_of_match id rules p ≡ false → IsOfMatch id rules p → ⊥
not_of_match id rules p h same =
    let yes = and_from (id_of p == id) (rules_code (packet_rules p) == rules_code rules)
    (eq-eqb _ _ same.0) (eq-eqb _ _ (ap rules_code same.1)) in
    cc
