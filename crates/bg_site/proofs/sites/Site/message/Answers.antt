use Rattle.bg_site.proofs.sites.Site.message.Goals as goal

pub returns-in-Hello-clause-seat : goal.returns-in-Hello-clause-seat
returns-in-Hello-clause-seat g c none index player at seat =
    (c.in-Hello.secret.now, c.in-Hello.ensures.said.1, c.hello.ensures none index player at seat)
