-- A watch goes on.
use Rattle.std.specs.Prelude.{refl, []}
use Rattle.std.proofs.Common.{◌∙◌}
use Rattle.std.proofs.lemmas.List.{append-nil}
use Rattle.pdq_office.specs.PassValue.{PassValue}
use Rattle.pdq_office.specs.Passes.{known, Follows}
use Rattle.pdq_office.proofs.Following.{follows_on}
use Rattle.pdq_serve.specs.Watching.{WatchView, Watches}

pub follows_same : (p : PassValue) → Follows p p
follows_same p = record { lock = refl; session = refl; origin = refl; parties = refl; mine = refl; seen = ([], append-nil (known p).seen) }

pub watches_same : (w : WatchView) → Watches w w
watches_same w = record { office = refl; held = refl; pass = follows_same w.pass }

pub watches_on : (a b c : WatchView) → Watches a b → Watches b c → Watches a c
watches_on a b c f g = record { office = g.office ∙ f.office; held = g.held ∙ f.held; pass = follows_on a.pass b.pass c.pass f.pass g.pass }
