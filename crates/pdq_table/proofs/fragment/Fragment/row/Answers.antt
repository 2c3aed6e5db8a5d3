use Rattle.std.proofs.Common.{◌≡◌, ◌+◌, ◌-◌, ◌*◌, ◌≤◌, ◌∙◌, ap₂, arith, drop, length, List, rules, Some, sym, take, ℕ, ℤ}
use Rattle.pdq_table.proofs.FlatRows.{row_ends, row_is}
use Rattle.pdq_table.proofs.fragment.Fragment.row.Goals as goal

pub offset_bounds-deref-start : goal.offset_bounds-deref-start
offset_bounds-deref-start c =
    let f = c.self.inside in
    let ends = row_ends f.width f.count f.words.items c.args.self.now c.self.invariant c.self.view_is c.args.i c.requires.row in
    let small = f.words.small in
    omega (arith, ends, f.words.ok.0, f.words.ok.1, small)

pub slice_bounds-result-end : goal.slice_bounds-result-end
slice_bounds-result-end c =
    let f = c.self.inside in
    let ends = row_ends f.width f.count f.words.items c.args.self.now c.self.invariant c.self.view_is c.args.i c.requires.row in
    let m : c.args.i * f.width + f.width ≤ length c.deref.result.now = rw c.deref.ensures.value ends in
    first_of (omega (arith, m), search rules)

pub returns : goal.returns
returns c =
    let f = c.self.inside in
    let wide : f.width ≡ c.args.i * f.width + f.width - c.args.i * f.width = omega arith in
    record {
      value = row_is f.width f.count f.words.items c.args.self.now c.self.invariant c.self.view_is c.args.i c.requires.row
          ∙ ap₂ (λ (n : ℕ) (ws : List ℤ). Some (take n (drop (c.args.i * f.width) ws))) wide (sym c.deref.ensures.value);
    }
