use Rattle.std.proofs.Common.{◌≡◌, ℕ, subst}
use Rattle.bg_board.specs.declared.players.Player.{Player}
use Rattle.bg_site.specs.Places.{HasSeatAt}
use Rattle.sha2.specs.Sha256.{sha256}
use Rattle.bg_site.proofs.sites.Site.hello.Goals as goal

pub returns : goal.returns
returns g c none index player at seat =
    let indices : c.in-Some.index ≡ index = cc in
    let players : c.in-Some.player ≡ player = cc in
    subst (λ (p : Player). HasSeatAt c.args.self.now.places.items (sha256 c.args.secret.now) index p) players
    (subst (λ (i : ℕ). HasSeatAt c.args.self.now.places.items (sha256 c.args.secret.now) i c.in-Some.player) indices c.in-Some.ensures)
