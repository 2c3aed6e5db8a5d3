-- What a pass knows it knows still where it made no further entry.
use Rattle.std.proofs.Common.{ℕ, ◌≡◌, ◌≢◌, ◌∙◌, List, ◌++◌, Option, sym, ap, subst, append_assoc}
use Rattle.std.specs.Prelude.{false, unwrap_or}
use mathlib.Core.List.{IsPrefix}
use Rattle.pdq_model.specs.declared.events.Entry.{Entry}
use Rattle.pdq_model.specs.Configuration.{Configuration}
use Rattle.pdq_model.specs.State.{State}
use Rattle.pdq_turn.specs.LockRule.{is_among, own_entries}
use Rattle.pdq_model.specs.Kept.{to_collect, IsLent}
use Rattle.pdq_model.specs.Laws.{queries_of}
use Rattle.pdq_office.specs.Knowledge.{party_of, CanFind, IsKnown, IsWaitedFor, IsOnLoan, HasOnly}
use Rattle.pdq_office.specs.PassValue.{PassValue}
use Rattle.pdq_office.specs.Passes.{known, session_of, Follows, KeepsBut, TicketsFollow, HeldFollow, UnfinishedFollow, FollowsOn}

pub prefix_trans : {A : Type 0} (xs ys zs : List A) → IsPrefix xs ys → IsPrefix ys zs → IsPrefix xs zs
prefix_trans xs ys zs a b = (a.0 ++ b.0, sym (append_assoc xs a.0 b.0) ∙ (ap (λ l. l ++ b.0) a.1 ∙ b.1))

could_find : (p q : PassValue) (c : Configuration) (found : List Entry) → Follows p q → CanFind c (known q) found → CanFind c (known p) found
could_find p q c found f can = record {
  origin = sym f.origin ∙ can.origin;
  legal = can.legal;
  seen = prefix_trans (known p).seen (known q).seen found f.seen can.seen;
  mine = sym f.mine ∙ (can.mine ∙ ap (λ (ps : List ℕ). own_entries party_of ps found) f.parties);
}

pub still : (p q : PassValue) (P : State → Type 0) → Follows p q → IsKnown (known p) P → IsKnown (known q) P
still p q P f known_it c found can = known_it c found (could_find p q c found f can)

number : (p q : PassValue) → Follows p q → session_of p ≡ session_of q
number p q f = sym (ap (λ (s : Option ℕ). unwrap_or s 0) f.session)

pub tickets_follow : TicketsFollow
tickets_follow p q ticket f has = subst (λ (n : ℕ). IsWaitedFor (known q) n ticket.id) (number p q f) (still p q (λ s. to_collect s (session_of p) ticket.id ≡ 0 → ⊥) f has)

pub held_follow : HeldFollow
held_follow p q held f has = subst (λ (n : ℕ). IsOnLoan (known q) n held.id held.frames) (number p q f) (still p q (λ s. IsLent s (session_of p) held.id held.frames) f has)

pub unfinished_follow : UnfinishedFollow
unfinished_follow p q ids f has = subst (λ (n : ℕ). HasOnly (known q) n ids) (number p q f) (still p q (λ s. (id : ℕ) → is_among id ids ≡ false → queries_of s (session_of p) id ≡ 0) f has)

pub follows_on : FollowsOn
follows_on p q r a b = record {
  lock = b.lock ∙ a.lock;
  session = b.session ∙ a.session;
  origin = b.origin ∙ a.origin;
  parties = b.parties ∙ a.parties;
  mine = b.mine ∙ a.mine;
  seen = prefix_trans (known p).seen (known q).seen (known r).seen a.seen b.seen;
}

-- what is kept up to a moment is kept up to a later one, and beyond it
pub keeps_follow : (p q r : PassValue) (id : ℕ) → KeepsBut id p q → Follows q r → KeepsBut id p r
keeps_follow p q r id kept f = record {
  tickets = λ other differ has. still q r (λ s. to_collect s (session_of p) other ≢ 0) f (kept.tickets other differ has);
  loans = λ other frames differ has. still q r (λ s. IsLent s (session_of p) other frames) f (kept.loans other frames differ has);
}

pub keeps_then : (p q r : PassValue) (id : ℕ) → session_of q ≡ session_of p → KeepsBut id p q → KeepsBut id q r → KeepsBut id p r
keeps_then p q r id same first then = record {
  tickets = λ other differ has. subst (λ (n : ℕ). IsWaitedFor (known r) n other) same (then.tickets other differ (subst (λ (n : ℕ). IsWaitedFor (known q) n other) (sym same) (first.tickets other differ has)));
  loans = λ other frames differ has. subst (λ (n : ℕ). IsOnLoan (known r) n other frames) same (then.loans other frames differ (subst (λ (n : ℕ). IsOnLoan (known q) n other frames) (sym same) (first.loans other frames differ has)));
}
