use Rattle.std.proofs.Common.{◌≡◌, ◌+◌, ◌-◌, ◌*◌, ◌<◌, ◌≤◌, ◌∙◌, ap₂, arith, drop, length, List, rules, Some, sym, take, ℕ, ℤ}
use Rattle.std.proofs.Math.Nat.{mul-le-mul_right}
use Rattle.pdq_spill.proofs.Layouts.{length-rows_of, row_at}
use Rattle.pdq_owner.proofs.kept.Kept.row.Goals as goal

-- the row ends within the words
ends : (i count width : ℕ) (words : List ℤ) → length words ≡ count * width → i < count → i * width + width ≤ length words
ends i count width words e h = omega (arith, e, mul-le-mul_right {m = i + 1} {n = count} width (omega (arith, h)))

pub overflow_mul-at : goal.overflow_mul-at
overflow_mul-at c =
    let f = c.self.inside in
    let h = rw (← c.self.view_is, length-rows_of f.width f.count f.words.items) at c.requires.within in
    omega (arith, ends c.args.i f.count f.width f.words.items c.self.invariant h, f.words.ok.0, f.words.ok.1, f.words.small)

pub overflow_add-result : goal.overflow_add-result
overflow_add-result c =
    let f = c.self.inside in
    let h = rw (← c.self.view_is, length-rows_of f.width f.count f.words.items) at c.requires.within in
    omega (arith, ends c.args.i f.count f.width f.words.items c.self.invariant h, f.words.ok.0, f.words.ok.1, f.words.small)

pub offset_bounds-deref-at : goal.offset_bounds-deref-at
offset_bounds-deref-at c =
    let f = c.self.inside in
    let h = rw (← c.self.view_is, length-rows_of f.width f.count f.words.items) at c.requires.within in
    omega (arith, ends c.args.i f.count f.width f.words.items c.self.invariant h, f.words.ok.0, f.words.ok.1, f.words.small)

pub slice_bounds-result-end : goal.slice_bounds-result-end
slice_bounds-result-end c =
    let f = c.self.inside in
    let h = rw (← c.self.view_is, length-rows_of f.width f.count f.words.items) at c.requires.within in
    let m : c.args.i * f.width + f.width ≤ length c.deref.result.now = rw c.deref.ensures.value (ends c.args.i f.count f.width f.words.items c.self.invariant h) in
    first_of (omega (arith, m), search rules)

pub returns : goal.returns
returns c =
    let f = c.self.inside in
    let h = rw (← c.self.view_is, length-rows_of f.width f.count f.words.items) at c.requires.within in
    let wide : f.width ≡ c.args.i * f.width + f.width - c.args.i * f.width = omega arith in
    record {
      row = rw (← c.self.view_is) (row_at f.width f.count f.words.items c.args.i h
          ∙ ap₂ (λ (n : ℕ) (ws : List ℤ). Some (take n (drop (c.args.i * f.width) ws))) wide (sym c.deref.ensures.value));
    }
