-- A change that comes with the pool that was made for it is answered as one that comes with the pool that it asks for.
use Rattle.std.proofs.Common.{ℕ, ◌≡◌, ◌∙◌, Bool, true, false, Option, None, Some, is_some, IfSome, refl, ap, ap₂}
use Rattle.std.specs.Prelude.{not, ◌&&◌, if◌then◌else◌, option_map, unwrap_or}
use Rattle.pdq_model.specs.declared.events.Answer.{Answer}
use Rattle.pdq_model.specs.declared.events.Answer.TheVariants.{Entered, Refuses}
use Rattle.pdq_model.specs.declared.events.Event.TheVariants.{Onmode}
use Rattle.pdq_model.specs.declared.events.Setting.{Setting}
use Rattle.pdq_model.specs.declared.events.Why.TheVariants as why
use Rattle.pdq_model.specs.Configuration.{Configuration, is_valid}
use Rattle.pdq_model.specs.State.{State}
use Rattle.pdq_model.specs.Step.{answer_to_change, changed_reply, decide, has_size, is_admin, is_full_for, needs_pool, pool_size_of, target_of, PoolSize}
use Rattle.pdq_frame.specs.Pools.{PoolView}
use Rattle.pdq_model.specs.declared.rows.Pending.{Pending}
use Rattle.pdq_model.specs.Configuration.{configuration}
use Rattle.pdq_model.specs.Settling.{with_pending}
use Rattle.pdq_model.specs.StatusView.{status_of}
use Rattle.pdq_model.specs.Step.{pending_or_present}
use Rattle.pdq_gate.specs.Showing.{change_shown}
use Rattle.pdq_sql.specs.declared.commands.Letter.{Letter}
use Rattle.pdq_sql.specs.declared.commands.Letter.TheVariants.{D, M, Q, S, N}
use Rattle.pdq_reply.specs.Changes.{letter_setting}
use Rattle.pdq_reply.specs.Changes.{IsOfSize, checked_target, pending_numbers, pool_for, pool_made, where_valid, with_letter}

-- the answer to a change, from what it depends on
abbrev answered : State → ℕ → Setting → Bool → Bool → PoolSize → Answer
answered s by x may valid size =
    if not may then Refuses why.NotAllowed
    else if not valid then Refuses why.BadValue
    else if needs_pool x && not (has_size size (pool_size_of s x)) then Refuses (why.PoolSize (pool_size_of s x).quanta (pool_size_of s x).frames)
    else if is_full_for s 1 then Refuses why.JournalFull
    else Entered (changed_reply s by x)

made_pool_answers : (s : State) (by : ℕ) (x : Setting) → answer_to_change s by x (pool_made s by x) ≡ decide s by (Onmode x)
made_pool_answers s by x = go (is_admin s by) (is_valid (target_of s x))
  where
    go : (may valid : Bool) → answered s by x may valid (pool_for (if may then (if valid then Some (target_of s x) else None) else None)) ≡ answered s by x may valid (pool_size_of s x)
    go false valid = refl
    go true false = refl
    go true true = refl

-- the same of a pool of that size
abbrev size_of : PoolView → PoolSize
size_of pool = record { quanta = pool.home; frames = pool.frames_per_quantum }

size_is : (pool : PoolView) (size : PoolSize) → IsOfSize pool size → size_of pool ≡ size
size_is pool size has = let f : ℕ → ℕ → PoolSize = λ q k. record { quanta = q; frames = k } in ap₂ f has.quanta has.frames

pub pool_for_letter : (s : State) (by : ℕ) (letter : Letter) (v : ℕ) (x : Setting) (pool : PoolView) → letter_setting letter v ≡ x → IsOfSize pool (pool_made s by (letter_setting letter v)) → answer_to_change s by x (record { quanta = pool.home; frames = pool.frames_per_quantum }) ≡ decide s by (Onmode x)
pool_for_letter s by letter v x pool is made = ap (answer_to_change s by x) (size_is pool (pool_made s by (letter_setting letter v)) made ∙ ap (pool_made s by) is) ∙ made_pool_answers s by x

-- a configuration that was checked
where_checked : (r : Option Configuration) (c : Configuration) → is_some r ≡ is_valid c → IfSome r (λ x. x ≡ c) → r ≡ where_valid c
where_checked None c test value = ap (λ b. if b then Some c else None) test
where_checked (Some x) c test value = ap Some value ∙ ap (λ b. if b then Some c else None) test

-- the configuration that a change asks for, by its numbers
abbrev numbers : Configuration → Option Pending → ℕ × ℕ × ℕ
numbers c p = unwrap_or (option_map change_shown p) (c.total_kb, c.max_queries, c.max_scans)

pending_is : (s : State) → configuration s.config.max_priority (pending_numbers (status_of s)).0 (pending_numbers (status_of s)).1 (pending_numbers (status_of s)).2 s.config.nonpdq_kb ≡ pending_or_present s
pending_is s = go s.pending
  where
    go : (p : Option Pending) → configuration s.config.max_priority (numbers s.config p).0 (numbers s.config p).1 (numbers s.config p).2 s.config.nonpdq_kb ≡ unwrap_or (option_map (with_pending s.config) p) s.config
    go None = refl
    go (Some p) = refl

target_is : (s : State) (letter : Letter) (v : ℕ) → with_letter letter v (pending_or_present s) ≡ target_of s (letter_setting letter v)
target_is s D v = refl
target_is s M v = refl
target_is s Q v = refl
target_is s S v = refl
target_is s N v = refl

pub target_checked : (s : State) (letter : Letter) (v : ℕ) (r : Option Configuration) (now : Configuration) (n : ℕ × ℕ × ℕ) (m k : ℕ) → now ≡ s.config → n ≡ pending_numbers (status_of s) → m ≡ now.max_priority → k ≡ now.nonpdq_kb →
    is_some r ≡ is_valid (with_letter letter v (configuration m n.0 n.1 n.2 k)) → IfSome r (λ x. x ≡ with_letter letter v (configuration m n.0 n.1 n.2 k)) → r ≡ checked_target s (letter_setting letter v)
target_checked s letter v r now n m k here is first last test value =
    where_checked r (with_letter letter v (configuration m n.0 n.1 n.2 k)) test value
    ∙ ap (λ x. where_valid (with_letter letter v (configuration x n.0 n.1 n.2 k))) (first ∙ ap (λ (c : Configuration). c.max_priority) here)
    ∙ ap (λ x. where_valid (with_letter letter v (configuration s.config.max_priority n.0 n.1 n.2 x))) (last ∙ ap (λ (c : Configuration). c.nonpdq_kb) here)
    ∙ ap (λ (x : ℕ × ℕ × ℕ). where_valid (with_letter letter v (configuration s.config.max_priority x.0 x.1 x.2 s.config.nonpdq_kb))) is
    ∙ ap where_valid (ap (with_letter letter v) (pending_is s) ∙ target_is s letter v)
