-- Each group is reached by the bits of its key, also when one more came or one was rewritten.
use Rattle.std.proofs.Common.{◌≡◌, ◌≢◌, ℕ, zero, suc, ◌+◌, ◌-◌, ◌<◌, Bool, true, false, List, [], ◌∷◌, ◌++◌, length, get_or, set, take, refl, sym, ap, ◌∙◌, subst, arith}
use Rattle.std.specs.Prelude.{ℤ, Option, Some, None, IfSome}
use mathlib.Core.Logic.{dite}
use native.Mathlib.Decide.{ℕ_discrete, dec_le}
use Rattle.std.proofs.lemmas.List.{length_push, length-set, get_or-set_same, get_or-set_other, get_or_append_left, get_or_push, map-set, get_or_default, get_or_past}
use Rattle.pdq_frame.specs.Regions.{RegionView, Row, Children, with_row, with_head, with_child, with_side, with_words, child_on, child_at, no_children, words_at, cleared}
use Rattle.pdq_group.specs.Trees.{bucket_of, bits_of, side, rest, walk, Reaches, Grown, words_in, no_row, key_at, AreTrees}

-- how many rows stand from here on
abbrev pub ahead : ℕ → Option ℕ → ℕ
ahead n None = 0
ahead n (Some s) = n - s

-- each row of this key is still to come on the walk
pub record Walked (n : ℕ) (r : RegionView) (key : List ℤ) (at : Option ℕ) (bits : ℕ) : Type 0 where
  pub stands : IfSome at (λ s. s < length r.rows)
  pub leads : (i : ℕ) → i < length r.rows → key_at n r.rows i ≡ key → Reaches r.children at bits i

-- a walk from here goes on one from the first row
pub record Passed (cs : List Children) (first bits at left : ℕ) : Type 0 where
  pub on : (ds : List Children) (i : ℕ) → Grown cs ds → Reaches ds (Some at) left i → Reaches ds (Some first) bits i

-- no walk begins at no row
none_reached : (cs : List Children) (steps bits i : ℕ) → walk cs steps None bits ≢ Some i
none_reached cs zero bits i e = cc
none_reached cs (suc n) bits i e = cc

pub nothing_reached : (cs : List Children) (bits i : ℕ) → Reaches cs None bits i → ⊥
nothing_reached cs bits i r = none_reached cs r.steps bits i r.there

-- a walk that does not end here goes on
step_on : (cs : List Children) (steps s bits i : ℕ) → s ≢ i → walk cs steps (Some s) bits ≡ Some i → Reaches cs (child_on (get_or cs s no_children) (side bits)) (rest bits) i
step_on cs zero s bits i ne e = let same : s ≡ i = cc in absurd (ne same)
step_on cs (suc n) s bits i ne e = record { steps = n; there = e }

pub walk_start : (n : ℕ) (r : RegionView) (key : List ℤ) (b bits : ℕ) (at : Option ℕ) → AreTrees n r → IfSome at (λ s. s < length r.rows) → b ≡ bucket_of (length r.heads) key → bits ≡ bits_of (length r.heads) key → get_or r.heads b None ≡ at → Walked n r key at bits
walk_start n r key b bits at h l is bs e = record {
  stands = l;
  leads = λ i m k.
      let found : get_or r.heads (bucket_of (length r.heads) (key_at n r.rows i)) None ≡ at = ap (λ x. get_or r.heads (bucket_of (length r.heads) x) None) k ∙ ap (λ x. get_or r.heads x None) (sym is) ∙ e in
      let same : bits_of (length r.heads) (key_at n r.rows i) ≡ bits = ap (bits_of (length r.heads)) k ∙ sym bs in
      subst (λ x. Reaches r.children x bits i) found (subst (λ x. Reaches r.children (get_or r.heads (bucket_of (length r.heads) (key_at n r.rows i)) None) x i) same (h.reached i m));
}

module _ (n : ℕ) (r : RegionView) (key : List ℤ) (bits : ℕ) where
  -- no row has the key
  pub walk_end : Walked n r key None bits → (i : ℕ) → i < length r.rows → key_at n r.rows i ≢ key
  walk_end w i l e = nothing_reached r.children bits i (w.leads i l e)

  pub walk_done : (at : Option ℕ) → ((s : ℕ) → at ≡ Some s → ⊥) → Walked n r key at bits → (i : ℕ) → i < length r.rows → key_at n r.rows i ≢ key
  walk_done None none w = walk_end w
  walk_done (Some s) none w = absurd (none s refl)

  -- a row with another key leads on
  pub walk_on : (s : ℕ) (words : List ℤ) (next : Option ℕ) (left : ℕ) → Walked n r key (Some s) bits → words ≡ words_at r s → next ≡ child_at r s (side bits) → left ≡ rest bits → IfSome next (λ t. (s < t) × (t < length r.rows)) → take n words ≢ key → Walked n r key next left
  walk_on s words next left w got to bs later ne = record {
    stands = below next later;
    leads = λ i l e.
        let other : s ≢ i = λ same. ne (ap (take n) got ∙ ap (key_at n r.rows) same ∙ e) in
        let reach = w.leads i l e in
        subst (λ x. Reaches r.children next x i) (sym bs) (subst (λ x. Reaches r.children x (rest bits) i) (sym to) (step_on r.children reach.steps s bits i other reach.there));
  }
    where
      below : (o : Option ℕ) → IfSome o (λ t. (s < t) × (t < length r.rows)) → IfSome o (λ t. t < length r.rows)
      below None p = tt
      below (Some t) p = p.1

-- ---- where a walk ends

pub passed_start : (cs : List Children) (first bits : ℕ) → Passed cs first bits first bits
passed_start cs first bits = record { on = λ ds i g h. h }

pub passed_on : (cs : List Children) (first bits at left next more : ℕ) → Passed cs first bits at left → Some next ≡ child_on (get_or cs at no_children) (side left) → more ≡ rest left → Passed cs first bits next more
passed_on cs first bits at left next more p e m = record {
  on = λ ds i g h.
      let down : child_on (get_or ds at no_children) (side left) ≡ Some next = g.keeps at (side left) next (sym e) in
      let there : walk ds h.steps (child_on (get_or ds at no_children) (side left)) (rest left) ≡ Some i = ap (λ o. walk ds h.steps o (rest left)) down ∙ ap (walk ds h.steps (Some next)) (sym m) ∙ h.there in
      p.on ds i g (record { steps = suc h.steps; there = there });
}

pub passed_end : (cs ds : List Children) (first bits at left i : ℕ) (right : Bool) → Passed cs first bits at left → right ≡ side left → Grown cs ds → child_on (get_or ds at no_children) right ≡ Some i → Reaches ds (Some first) bits i
passed_end cs ds first bits at left i right p is g e =
    let there : walk ds (suc zero) (Some at) left ≡ Some i = ap (child_on (get_or ds at no_children)) (sym is) ∙ e in
    p.on ds i g (record { steps = suc zero; there = there })

-- ---- one more row

-- the walks that were stay
through : (cs ds : List Children) (n s bits i : ℕ) → Grown cs ds → ((c : ℕ) → walk cs n (Some c) (rest bits) ≡ Some i → walk ds n (Some c) (rest bits) ≡ Some i) → (o : Option ℕ) → child_on (get_or cs s no_children) (side bits) ≡ o → walk cs n o (rest bits) ≡ Some i → walk ds n (child_on (get_or ds s no_children) (side bits)) (rest bits) ≡ Some i
through cs ds n s bits i g again None is h = absurd (none_reached cs n (rest bits) i h)
through cs ds n s bits i g again (Some c) is h = ap (λ o. walk ds n o (rest bits)) (g.keeps s (side bits) c is) ∙ again c h

grown_walk : (cs ds : List Children) (steps : ℕ) (at : Option ℕ) (bits i : ℕ) → Grown cs ds → walk cs steps at bits ≡ Some i → walk ds steps at bits ≡ Some i
grown_walk cs ds zero at bits i g e = e
grown_walk cs ds (suc n) None bits i g e = absurd (none_reached cs (suc n) bits i e)
grown_walk cs ds (suc n) (Some s) bits i g e = through cs ds n s bits i g (λ c h. grown_walk cs ds n (Some c) (rest bits) i g h) (child_on (get_or cs s no_children) (side bits)) refl e

pub grown_reaches : (cs ds : List Children) (at : Option ℕ) (bits i : ℕ) → Grown cs ds → Reaches cs at bits i → Reaches ds at bits i
grown_reaches cs ds at bits i g h = record { steps = h.steps; there = grown_walk cs ds h.steps at bits i g h.there }

-- a row without children is behind
grown_push : (cs : List Children) → Grown cs (cs ++ no_children ∷ [])
grown_push cs = record {
  keeps = λ s right c e. dite (dec_le (s + 1) (length cs))
      (λ l. ap (λ x. child_on x right) (get_or_append_left cs (no_children ∷ []) no_children s (omega (arith, l))) ∙ e)
      (λ g. absurd (beyond right c (ap (λ x. child_on x right) (sym (get_or_past cs s no_children (omega (arith, g)))) ∙ e)));
}
  where
    beyond : (right : Bool) (c : ℕ) → child_on no_children right ≢ Some c
    beyond false c e = cc
    beyond true c e = cc

side_set : (x : Children) (right : Bool) (to : Option ℕ) → child_on (with_side x right to) right ≡ to
side_set x false to = refl
side_set x true to = refl

-- a child came where there was none
side_grown : (x : Children) (right other : Bool) (to : Option ℕ) (c : ℕ) → child_on x right ≡ None → child_on x other ≡ Some c → child_on (with_side x right to) other ≡ Some c
side_grown x false false to c free e = cc
side_grown x false true to c free e = e
side_grown x true false to c free e = e
side_grown x true true to c free e = cc

grown_child : (cs : List Children) (t : ℕ) (right : Bool) (to : Option ℕ) → t < length cs → child_on (get_or cs t no_children) right ≡ None → Grown cs (set cs t (with_side (get_or cs t no_children) right to))
grown_child cs t right to l free = record {
  keeps = λ s other c e. dite (ℕ_discrete s t)
      (λ same. ap (λ j. child_on (get_or (set cs t (with_side (get_or cs t no_children) right to)) j no_children) other) same
      ∙ ap (λ x. child_on x other) (get_or-set_same cs t (with_side (get_or cs t no_children) right to) no_children l)
      ∙ side_grown (get_or cs t no_children) right other to c free (ap (λ j. child_on (get_or cs j no_children) other) (sym same) ∙ e))
      (λ ne. ap (λ x. child_on x other) (get_or-set_other cs t s (with_side (get_or cs t no_children) right to) no_children ne) ∙ e);
}

grown_both : (cs ds es : List Children) → Grown cs ds → Grown ds es → Grown cs es
grown_both cs ds es g h = record { keeps = λ s right c e. h.keeps s right c (g.keeps s right c e) }

module _ (n : ℕ) (r : RegionView) (words : List ℤ) (h : AreTrees n r) where
  abbrev row : Row
  row = record { words = words; link = None }

  abbrev rows : List Row
  rows = r.rows ++ row ∷ []

  abbrev pushed : List Children
  pushed = r.children ++ no_children ∷ []

  -- the children with the new row below the row t
  abbrev grew : ℕ → Bool → List Children
  grew t right = set pushed t (with_side (get_or pushed t no_children) right (Some (length r.rows)))

  more : length rows ≡ length r.rows + 1
  more = length_push r.rows row

  more_children : length pushed ≡ length r.children + 1
  more_children = length_push r.children no_children

  alone_more : (s : ℕ) → s < length rows → (get_or rows s no_row).link ≡ None
  alone_more s l = dite (dec_le (s + 1) (length r.rows))
      (λ old. ap (λ (x : Row). x.link) (get_or_append_left r.rows (row ∷ []) no_row s (omega (arith, old))) ∙ h.alone s (omega (arith, old)))
      (λ new. ap (λ (x : Row). x.link) (get_or_push r.rows row no_row s (omega (arith, new, l, more))))

  -- an old row has the key that it had
  old_key : (s : ℕ) → s < length r.rows → key_at n rows s ≡ key_at n r.rows s
  old_key s l = ap (λ (x : Row). take n x.words) (get_or_append_left r.rows (row ∷ []) no_row s l)

  new_key : (s : ℕ) → s ≡ length r.rows → key_at n rows s ≡ take n words
  new_key s e = ap (λ (x : Row). take n x.words) (get_or_push r.rows row no_row s (sym e))

  -- all rows are reached if the old ones and the new one are
  module _ (k : ℕ) (heads : List (Option ℕ)) (cs : List Children) where
    abbrev Comes : List ℤ → ℕ → Type 0
    Comes key s = Reaches cs (get_or heads (bucket_of k key) None) (bits_of k key) s

    both_reached : ((s : ℕ) → s < length r.rows → Comes (key_at n r.rows s) s) → Comes (take n words) (length r.rows) → (s : ℕ) → s < length rows → Comes (key_at n rows s) s
    both_reached old new s l = dite (ℕ_discrete s (length r.rows))
        (λ same. subst (λ key. Comes key s) (sym (new_key s same)) (subst (λ i. Comes (take n words) i) (sym same) new))
        (λ other. let m : s < length r.rows = omega (arith, l, more, other) in subst (λ key. Comes key s) (sym (old_key s m)) (old s m))

  -- the first row of its bucket
  pub trees_first : (b : ℕ) → b < length r.heads → b ≡ bucket_of (length r.heads) (take n words) → get_or r.heads b None ≡ None → AreTrees n (with_head (with_row r (record { words = words; link = None })) b (Some (length r.rows)))
  trees_first b l is empty =
      let c : length (set r.heads b (Some (length r.rows))) ≡ length r.heads = length-set r.heads b (Some (length r.rows)) in
      record {
        children = omega (arith, more, more_children, h.children);
        alone = alone_more;
        reached = subst (λ j. (s : ℕ) → s < length rows → Comes j (set r.heads b (Some (length r.rows))) pushed (key_at n rows s) s) (sym c)
            (both_reached (length r.heads) (set r.heads b (Some (length r.rows))) pushed
            (λ s m. dite (ℕ_discrete (bucket_of (length r.heads) (key_at n r.rows s)) b)
            (λ same. absurd (nothing_reached r.children (bits_of (length r.heads) (key_at n r.rows s)) s (subst (λ at. Reaches r.children at (bits_of (length r.heads) (key_at n r.rows s)) s) (ap (λ j. get_or r.heads j None) same ∙ empty) (h.reached s m))))
            (λ other. subst (λ at. Reaches pushed at (bits_of (length r.heads) (key_at n r.rows s)) s) (sym (get_or-set_other r.heads b (bucket_of (length r.heads) (key_at n r.rows s)) (Some (length r.rows)) None other))
            (grown_reaches r.children pushed (get_or r.heads (bucket_of (length r.heads) (key_at n r.rows s)) None) (bits_of (length r.heads) (key_at n r.rows s)) s (grown_push r.children) (h.reached s m))))
            (record { steps = zero; there = ap (λ j. get_or (set r.heads b (Some (length r.rows))) j None) (sym is) ∙ get_or-set_same r.heads b (Some (length r.rows)) None l }));
      }

  -- a row below one that stands
  pub trees_below : (b bits first t : ℕ) (right : Bool) → b ≡ bucket_of (length r.heads) (take n words) → bits ≡ bits_of (length r.heads) (take n words) → get_or r.heads b None ≡ Some first → t < length r.rows → child_at r t right ≡ None
      → ((cs : List Children) (i : ℕ) → Grown r.children cs → child_on (get_or cs t no_children) right ≡ Some i → Reaches cs (Some first) bits i)
      → AreTrees n (with_child (with_row r (record { words = words; link = None })) t right (Some (length r.rows)))
  trees_below b bits first t right is bs found l free leads =
      let at : get_or pushed t no_children ≡ get_or r.children t no_children = get_or_append_left r.children (no_children ∷ []) no_children t (omega (arith, l, h.children)) in
      let inside : t < length pushed = omega (arith, l, h.children, more_children) in
      let nothing : child_on (get_or pushed t no_children) right ≡ None = ap (λ x. child_on x right) at ∙ free in
      let grown : Grown r.children (grew t right) =
      grown_both r.children pushed (grew t right) (grown_push r.children) (grown_child pushed t right (Some (length r.rows)) inside nothing) in
      let there : child_on (get_or (grew t right) t no_children) right ≡ Some (length r.rows) =
      ap (λ x. child_on x right) (get_or-set_same pushed t (with_side (get_or pushed t no_children) right (Some (length r.rows))) no_children inside) ∙ side_set (get_or pushed t no_children) right (Some (length r.rows)) in
      record {
        children = omega (arith, more, more_children, h.children, length-set pushed t (with_side (get_or pushed t no_children) right (Some (length r.rows))));
        alone = alone_more;
        reached = both_reached (length r.heads) r.heads (grew t right)
            (λ s m. grown_reaches r.children (grew t right) (get_or r.heads (bucket_of (length r.heads) (key_at n r.rows s)) None) (bits_of (length r.heads) (key_at n r.rows s)) s grown (h.reached s m))
            (subst (λ at. Reaches (grew t right) at (bits_of (length r.heads) (take n words)) (length r.rows)) (sym (ap (λ j. get_or r.heads j None) (sym is) ∙ found))
            (subst (λ x. Reaches (grew t right) (Some first) x (length r.rows)) bs
            (leads (grew t right) (length r.rows) grown there)));
      }

-- ---- a row that keeps its key

module _ (n : ℕ) (r : RegionView) (s : ℕ) (words : List ℤ) (h : AreTrees n r) (l : s < length r.rows) (is : key_at n r.rows s ≡ take n words) where
  abbrev old : Row
  old = get_or r.rows s (record { words = words; link = None })

  abbrev changed : List Row
  changed = set r.rows s (record { words = words; link = old.link })

  same_link : (i : ℕ) → i < length r.rows → (get_or changed i no_row).link ≡ (get_or r.rows i no_row).link
  same_link i m = dite (ℕ_discrete i s)
      (λ same. ap (λ j. (get_or changed j no_row).link) same ∙ ap (λ (x : Row). x.link) (get_or-set_same r.rows s (record { words = words; link = old.link }) no_row l) ∙ ap (λ (x : Row). x.link) (get_or_default r.rows s (record { words = words; link = None }) no_row l) ∙ ap (λ j. (get_or r.rows j no_row).link) (sym same))
      (λ other. ap (λ (x : Row). x.link) (get_or-set_other r.rows s i (record { words = words; link = old.link }) no_row other))

  same_key : (i : ℕ) → i < length r.rows → key_at n changed i ≡ key_at n r.rows i
  same_key i m = dite (ℕ_discrete i s)
      (λ same. ap (λ j. key_at n changed j) same ∙ ap (λ (x : Row). take n x.words) (get_or-set_same r.rows s (record { words = words; link = old.link }) no_row l) ∙ sym is ∙ ap (λ j. key_at n r.rows j) (sym same))
      (λ other. ap (λ (x : Row). take n x.words) (get_or-set_other r.rows s i (record { words = words; link = old.link }) no_row other))

  pub trees_write : AreTrees n (with_words r s words)
  trees_write =
      let d : length changed ≡ length r.rows = length-set r.rows s (record { words = words; link = old.link }) in
      record {
        children = h.children ∙ sym d;
        alone = λ k m. let m' : k < length r.rows = omega (arith, m, d) in same_link k m' ∙ h.alone k m';
        reached = λ k m. let m' : k < length r.rows = omega (arith, m, d) in
            subst (λ key. Reaches r.children (get_or r.heads (bucket_of (length r.heads) key) None) (bits_of (length r.heads) key) k) (sym (same_key k m')) (h.reached k m');
      }

  pub words_write : words_in (with_words r s words) ≡ set (words_in r) s words
  words_write = map-set (λ (x : Row). x.words) r.rows s (record { words = words; link = old.link })

-- in an empty region
pub trees_cleared : (n frames h width : ℕ) → AreTrees n (cleared frames h width)
trees_cleared n frames h width = record {
  children = refl;
  alone = λ s m. absurd (omega arith);
  reached = λ s m. absurd (omega arith);
}
