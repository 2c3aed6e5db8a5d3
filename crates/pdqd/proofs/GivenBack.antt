-- Frames that come home to the pool that granted them.
use Rattle.std.proofs.Common.{◌≡◌, ℕ, ◌+◌, ◌*◌, ◌/◌, ◌%◌, ◌≤◌, ap, arith, ◌∙◌}
use Rattle.pdq_frame.specs.Pools.{PoolView, granted}

-- a pool of so many quanta of one frame
abbrev single : ℕ → PoolView
single quanta = record { frames_per_quantum = 1; home = quanta; made = quanta }

pub gives_whole : (pool new : PoolView) (quanta frames : ℕ) → pool ≡ single quanta → new ≡ granted pool quanta → frames % new.frames_per_quantum ≡ 0
gives_whole pool new quanta frames is grants =
    let one : new.frames_per_quantum ≡ 1 = ap (λ (p : PoolView). p.frames_per_quantum) (grants ∙ ap (λ (p : PoolView). granted p quanta) is) in
    rw one (omega arith)

pub gives_most : (pool new : PoolView) (quanta frames : ℕ) → pool ≡ single quanta → new ≡ granted pool quanta → frames ≡ quanta * pool.frames_per_quantum → new.home + frames / new.frames_per_quantum ≤ new.made
gives_most pool new quanta frames is grants so_many =
    let one : new.frames_per_quantum ≡ 1 = ap (λ (p : PoolView). p.frames_per_quantum) (grants ∙ ap (λ (p : PoolView). granted p quanta) is) in
    let home : new.home + quanta ≡ quanta = ap (λ (p : PoolView). p.home + quanta) (grants ∙ ap (λ (p : PoolView). granted p quanta) is) ∙ omega arith in
    let made : new.made ≡ quanta = ap (λ (p : PoolView). p.made) (grants ∙ ap (λ (p : PoolView). granted p quanta) is) in
    let each : pool.frames_per_quantum ≡ 1 = ap (λ (p : PoolView). p.frames_per_quantum) is in
    let all : frames ≡ quanta = so_many ∙ ap (λ (k : ℕ). quanta * k) each ∙ omega arith in
    rw (one, made) (omega (arith, home, all))
