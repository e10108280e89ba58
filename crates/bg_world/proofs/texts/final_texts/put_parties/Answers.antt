use Rattle.std.proofs.Common.{◌≡◌, ℕ, ◌+◌, List, ◌++◌, Option, ap, ◌∙◌, sym, append_assoc, add-one}
use Rattle.bg_match.specs.Match.{Log}
use Rattle.bg_text.specs.Boards.BoardText.{line_text}
use Rattle.bg_world.specs.Texts.FinalText.{parties_text, party_line}
use Rattle.bg_protocol.specs.Protocol.Roles.{role}
use Rattle.bg_protocol.specs.Worlds.Starts.{held_of}
use Rattle.bg_protocol.specs.Worlds.Views.{WorldView}
use Rattle.bg_protocol.specs.Worlds.World.{view_of}
use Rattle.bg_world.proofs.texts.final_texts.put_parties.Goals as goal

one_more : (w : WorldView) (n : ℕ) (before old new : List ℕ) (held : Option Log) → held ≡ held_of w (role n)
    → old ≡ before ++ parties_text w n → new ≡ old ++ line_text (party_line n held)
    → new ≡ before ++ parties_text w (n + 1)
one_more w n before old new held holds is grown =
    let line : List ℕ = line_text (party_line n (held_of w (role n))) in
    grown ∙ ap (λ (h : Option Log). old ++ line_text (party_line n h)) holds
    ∙ ap (λ (t : List ℕ). t ++ line) is ∙ append_assoc before (parties_text w n) line
    ∙ ap (λ (k : ℕ). before ++ parties_text w k) (sym (add-one n))

pub loop-party-preserved : goal.loop-party-preserved
loop-party-preserved g c =
    one_more (view_of g.L.Link g.K.Keeper c.args.world.now) c.loop-party.party c.args.out.now.items
    c.loop-party.out.items c.put_party.new.out.items _ c.held.ensures c.loop-party.invariant
    c.in_ok-put_party.ensures
