-- The law of the byte that tells the rules.
use Rattle.std.proofs.Common.{◌≡◌, ℕ, zero, suc, ◌≤◌, List, [], ◌∷◌, length, refl, sym, ap, ◌∙◌, arith}
use Rattle.std.specs.Prelude.{Some, slice_get}
use Rattle.bg_match.specs.declared.limits.Rules.{Rules}
use Rattle.bg_match.specs.declared.limits.Rules.TheVariants.{One, Two}
use Rattle.bg_wire.specs.Entries.Codes.{rules_offset, rules_one, rules_two, rules_code}
use Rattle.bg_wire.specs.Entries.Reading.{u8_at}
use Rattle.bg_wire.specs.Entries.RulesReading.{rules_of_code, rules_at}
use Rattle.bg_wire.specs.Packets.PacketText.{packet_text, packet_rules, TextsTellRules}
use Rattle.bg_wire.specs.declared.packets.Packet.{Packet}
use Rattle.bg_wire.specs.declared.packets.Packet.TheVariants as packet
use Rattle.bg_wire.proofs.Laws.{Law, Mapped, Single, HasText, with_law, other_text}
use Rattle.bg_wire.proofs.Fields.{Byte, one_byte}

abbrev pub RulesByte : Rules → List ℕ → Type 0
RulesByte rules front = front ≡ rules_code rules ∷ []

code_of_rules : (n : ℕ) → rules_one ≤ n → n ≤ rules_two → rules_code (rules_of_code n) ≡ n
code_of_rules zero low high = absurd (omega arith)
code_of_rules (suc zero) low high = refl
code_of_rules (suc (suc zero)) low high = refl
code_of_rules (suc (suc (suc n))) low high = absurd (omega arith)

code_to : (rules : Rules) (front : List ℕ) → Mapped rules_of_code (Byte rules_one rules_two) rules front
    → RulesByte rules front
code_to rules front h =
    h.1.2 ∙ ap (λ (n : ℕ). n ∷ []) (sym (code_of_rules h.0 h.1.0 h.1.1) ∙ ap rules_code h.2)

code_from : (rules : Rules) (front : List ℕ) → RulesByte rules front
    → Mapped rules_of_code (Byte rules_one rules_two) rules front
code_from One front h = (rules_one, (omega arith, omega arith, h), refl)
code_from Two front h = (rules_two, (omega arith, omega arith, h), refl)

pub rules_byte_law : Law (Single 1) rules_at RulesByte
unfolding rules_at
rules_byte_law = other_text _ code_to code_from
    (with_law rules_of_code (u8_at rules_one rules_two) (one_byte rules_one rules_two))

pub rules_byte_len : (rules : Rules) (front : List ℕ) → RulesByte rules front → length front ≡ 1
rules_byte_len rules front h = ap length h

pub has_rules_byte : HasText RulesByte
has_rules_byte = (One, rules_code One ∷ [], refl)

-- ---- the rules of a packet

in_text : (p : Packet) → slice_get (packet_text p) rules_offset ≡ Some (rules_code (packet_rules p))
in_text (packet.Want id rules sender held) = refl
in_text (packet.Claim id rules sender number action) = refl
in_text (packet.Entries id rules start list) = refl

pub texts_tell_rules : TextsTellRules
texts_tell_rules p bytes h = ap (λ (b : List ℕ). slice_get b rules_offset) h.spelled ∙ in_text p
