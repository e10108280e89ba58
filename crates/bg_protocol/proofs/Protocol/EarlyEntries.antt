-- What followers keep was shown to them, whatever happens.
use Rattle.std.specs.Prelude.{◌≡◌, ℕ, zero, suc, ◌+◌, List, [], ◌++◌, Option, Some, IfSome, slice_get}
use Rattle.std.proofs.Common.{sym, ◌∙◌, ap, subst, inl, inr}
use Rattle.bg_match.specs.declared.limits.Rules.{Rules}
use Rattle.bg_match.specs.Terms.{Terms, rules_of}
use Rattle.bg_board.specs.declared.players.Player.{Player}
use Rattle.bg_board.specs.declared.players.Player.TheVariants.{X, O}
use Rattle.bg_match.specs.declared.entries.Entry.{Entry}
use Rattle.bg_wire.specs.Entries.Codes.{first_watcher}
use Rattle.bg_wire.specs.Parties.{party_of}
use Rattle.bg_wire.specs.declared.packets.Datagram.{Datagram}
use Rattle.bg_wire.specs.declared.packets.Packet.{Packet}
use Rattle.bg_wire.specs.declared.packets.Packet.TheVariants as packet
use Rattle.bg_party.specs.Takes.{IsTold, Tells}
use Rattle.bg_party.specs.Views.{FollowerView, SeatView, WatcherView}
use Rattle.bg_party.specs.Window.{at_place}
use Rattle.bg_protocol.specs.Protocol.Datagrams.{WasSent, WasShown}
use Rattle.bg_protocol.specs.Worlds.Views.{WorldView, seat_core}
use Rattle.bg_protocol.specs.Worlds.WorldState.{AllKeepWhatWasShown, KeepsWhatWasShown}
use Rattle.bg_protocol.proofs.Protocol.Growth.{stood_more}

-- ---- one follower

-- none keeps an entry at a place where none is
no_place : (i : ℕ) (e : Entry) → at_place [] i ≡ Some e → ⊥
no_place zero e h = cc
no_place (suc i) e h = cc

pub none_kept : (id : ℕ) (terms : Terms) (sent : List Datagram) (party : ℕ) (f : FollowerView) → f.early ≡ []
    → KeepsWhatWasShown id terms sent party f
none_kept id terms sent party f none n e h =
    absurd (no_place h.0 e (subst (λ (l : List (Option Entry)). at_place l h.0 ≡ Some e) none h.2))

-- what was shown stays known
pub shown_more : (id : ℕ) (terms : Terms) (sent new out : List Datagram) (party : ℕ) (f : FollowerView) → new ≡ sent ++ out
    → KeepsWhatWasShown id terms sent party f → KeepsWhatWasShown id terms new party f
shown_more id terms sent new out party f more h n e early =
    subst (λ (l : List Datagram). WasShown id terms l party n e) (sym more) (stood_more id terms sent out party n e (h n e early))

-- what a packet that was sent to the party tells was shown to it
told : (id match_id : ℕ) (terms match_terms : Terms) (sent : List Datagram) (party : ℕ) (p : Packet) (n : ℕ) (e : Entry)
    → match_id ≡ id → match_terms ≡ terms → WasSent sent party p → Tells match_id match_terms p n e
    → WasShown id terms sent party n e
told id match_id terms match_terms sent party (packet.Entries i rules start list) n e same also came h = record {
  start = start;
  list = list;
  came = subst (λ (j : ℕ). WasSent sent party (packet.Entries j (rules_of terms) start list)) (h.0.0 ∙ same)
      (subst (λ (r : Rules). WasSent sent party (packet.Entries i r start list)) (h.0.1 ∙ ap rules_of also) came);
  place = h.1.0;
  number = sym h.1.1;
  stands = h.1.2;
}
told id match_id terms match_terms sent party (packet.Want i rules sender held) n e same also came h = absurd h
told id match_id terms match_terms sent party (packet.Claim i rules sender m a) n e same also came h = absurd h

pub told_shown : (id : ℕ) (terms : Terms) (sent : List Datagram) (party : ℕ) (f : FollowerView) (p : Packet) (n : ℕ) (e : Entry)
    → f.log.id ≡ id → f.log.terms ≡ terms → WasSent sent party p → KeepsWhatWasShown id terms sent party f → IsTold f p n e
    → WasShown id terms sent party n e
told_shown id terms sent party f p n e same also came kept (inl h) =
    told id f.log.id terms f.log.terms sent party p n e same also came h
told_shown id terms sent party f p n e same also came kept (inr h) = kept n e h

-- ---- the followers of a world

pub seat_keeps : (w : WorldView) (q : Player) (s : SeatView) → AllKeepWhatWasShown w → seat_core w q ≡ Some s
    → KeepsWhatWasShown w.id w.terms w.link.sent (party_of q) s.follower
seat_keeps w X s kept is =
    subst (λ (x : Option SeatView). IfSome x (λ s. KeepsWhatWasShown w.id w.terms w.link.sent 1 s.follower)) is kept.x
seat_keeps w O s kept is =
    subst (λ (x : Option SeatView). IfSome x (λ s. KeepsWhatWasShown w.id w.terms w.link.sent 2 s.follower)) is kept.o

pub watcher_keeps : (w : WorldView) (i party : ℕ) (f : WatcherView) → AllKeepWhatWasShown w → party ≡ first_watcher + i
    → slice_get w.watchers i ≡ Some f → KeepsWhatWasShown w.id w.terms w.link.sent party f.follower
watcher_keeps w i party f kept is_party is =
    subst (λ (n : ℕ). KeepsWhatWasShown w.id w.terms w.link.sent n f.follower) (sym is_party) (kept.watchers i f is)
