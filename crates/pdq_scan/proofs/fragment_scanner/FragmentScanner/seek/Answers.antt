use Rattle.std.proofs.Common.{◌<◌, ◌∙◌, arith, length, map, List, ℤ, Bor}
use Rattle.std.proofs.lemmas.List.{length-map}
use Rattle.pdq_table.specs.declared.fragment.Fragment.{Fragment}
use Rattle.pdq_scan.proofs.Scanning.{left-none, piece-at, seek-behind, seek-found, seek-within}
use Rattle.pdq_scan.proofs.fragment_scanner.FragmentScanner.seek.Goals as goal

pub returns-then-self-len-clause-same : goal.returns-then-self-len-clause-same
returns-then-self-len-clause-same c =
    let s = c.loop-self.self in
    let rows : Bor Fragment → List (List ℤ) = λ f. f.now.rows in
    let fragment = c.index-fragment.result.now in
    let l : s.at < length s.fragments.items = omega arith in
    let is = piece-at rows s.fragments.items s.at fragment l c.index-fragment.ensures in
    seek-within s.tests.items c.deref.result.now c.deref.ensures.value s.picker.picks.items (map rows s.fragments.items) fragment.now.rows s.at s.row c.next_passing-self.result (omega (arith, l, length-map s.fragments.items rows)) is c.next_passing-self.ensures.rest
    ∙ c.loop-self.invariant.same

pub returns-then-self-len-clause-found : goal.returns-then-self-len-clause-found
returns-then-self-len-clause-found c = λ there.
    let s = c.loop-self.self in
    let rows : Bor Fragment → List (List ℤ) = λ f. f.now.rows in
    let fragment = c.index-fragment.result.now in
    let l : s.at < length s.fragments.items = omega arith in
    let is = piece-at rows s.fragments.items s.at fragment l c.index-fragment.ensures in
    let within : c.next_passing-self.result < length fragment.now.rows = omega arith in
    seek-found s.tests.items c.deref.result.now c.deref.ensures.value s.picker.picks.items (map rows s.fragments.items) fragment.now.rows s.at s.row c.next_passing-self.result (omega (arith, l, length-map s.fragments.items rows)) is within (c.next_passing-self.ensures.passes within)

pub loop-self-preserved : goal.loop-self-preserved
loop-self-preserved c =
    let s = c.loop-self.self in
    let inv = c.loop-self.invariant in
    let rows : Bor Fragment → List (List ℤ) = λ f. f.now.rows in
    let fragment = c.index-fragment.result.now in
    let l : s.at < length s.fragments.items = omega arith in
    let is = piece-at rows s.fragments.items s.at fragment l c.index-fragment.ensures in
    let m : s.at < length (map rows s.fragments.items) = omega (arith, l, length-map s.fragments.items rows) in
    record {
      fragments = inv.fragments;
      tests = inv.tests;
      columns = inv.columns;
      same =
          seek-behind s.tests.items c.deref.result.now c.deref.ensures.value s.picker.picks.items (map rows s.fragments.items) fragment.now.rows s.at s.row c.next_passing-self.result m is (omega arith)
          ∙ (seek-within s.tests.items c.deref.result.now c.deref.ensures.value s.picker.picks.items (map rows s.fragments.items) fragment.now.rows s.at s.row c.next_passing-self.result m is c.next_passing-self.ensures.rest
          ∙ inv.same);
    }

pub returns-clause-none : goal.returns-clause-none
returns-clause-none c = λ there.
    let s = c.loop-self.self in
    let rows : Bor Fragment → List (List ℤ) = λ f. f.now.rows in
    left-none s.tests.items s.picker.picks.items (map rows s.fragments.items) s.at s.row (omega (arith, length-map s.fragments.items rows))
