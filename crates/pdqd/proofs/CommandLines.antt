-- What a parse finds in plain words of `ask`, `make` and `script`, and that it takes them.
use Rattle.std.proofs.Common.{◌≡◌, ◌∙◌, List, [], ◌∷◌, Bool, true, false, refl, ap, ap₂, codes, ◌&&◌}
use Rattle.std.specs.List.{list_all}
use Rattle.std.specs.Prelude.{fold}
use Rattle.clap.specs.Words.{Shape, Text, is_simple, subcommand_of, takes}
use Rattle.clap.specs.Walk.{Walk, arg_by_index, finished, nothing_held, to_positional, walk, walk_from, walked}
use Rattle.clap.specs.Simple.{built_leaf, inherited, with_leaf_noted}
use Rattle.clap.specs.Takes.{default_passes, is_valid, level_passes, settle_passes, walk_passes}
use Rattle.clap.proofs.OnLiterals.{clap_on_literals}
use Rattle.pdqd.specs.declared.words.Form.TheVariants.{Ask, AskTables}
use Rattle.std.specs.Prelude.{Some}
use Rattle.pdqd.specs.Words.{make_of, number_of, over_tables, script_of}
use Rattle.pdqd.specs.CommandLine.{ask_command, command_line, form_found, make_command, script_command}
use Rattle.pdqd.proofs.ClapSteps.{IsPlain, passes, step}

pub simple : is_simple command_line ≡ true
unfolding clap_on_literals
simple = refl

-- the three commands as they are built
abbrev ask_built : Shape
ask_built = built_leaf (inherited (with_leaf_noted command_line.top) ask_command.top)

abbrev script_built : Shape
script_built = built_leaf (inherited (with_leaf_noted command_line.top) script_command.top)

abbrev make_built : Shape
make_built = built_leaf (inherited (with_leaf_noted command_line.top) make_command.top)

abbrev start : Walk
start = walk_from nothing_held

-- the walk after one more plain word
abbrev after : Shape → Walk → Text → Walk
after s w word = to_positional s.rules (arg_by_index s.rules w.position) word w w.held

-- the rest of the walk
abbrev on : Shape → List Text → Walk → Walk
on s rest w = fold (walked s.rules []) w rest

abbrev level : Shape → Bool → Walk → Bool
level s goes end = goes && (settle_passes s.rules s.args_override_self end.held
    && (list_all default_passes s.rules && is_valid s (finished s.rules end.held) false))

abbrev below : Bool → Bool
below b = b && true

-- `ask SELECT`
module _ (select : Text) (plain : IsPlain select) where
  one_walk : walk ask_built.rules [] nothing_held (select ∷ []) ≡ after ask_built start select
  one_walk = step ask_built.rules start select plain refl refl refl

  one_passes : walk_passes ask_built [] start (select ∷ []) ≡ true
  unfolding walk_passes
  one_passes = passes ask_built start select [] plain refl refl refl refl

  one_level : level_passes ask_built [] nothing_held (select ∷ []) false ≡ true
  one_level = ap₂ (level ask_built) one_passes one_walk

  pub question_taken : takes command_line (codes "ask" ∷ select ∷ []) ≡ true
  unfolding clap_on_literals
  question_taken = ap below one_level

  pub question_found : form_found (subcommand_of command_line (codes "ask" ∷ select ∷ [])) ≡ Some (Ask select)
  unfolding clap_on_literals
  question_found = ap (λ (w : Walk). form_found (Some (codes "ask", finished ask_built.rules w.held))) one_walk

-- `make N`
module _ (count : Text) (plain : IsPlain count) where
  count_walk : walk make_built.rules [] nothing_held (count ∷ []) ≡ after make_built start count
  count_walk = step make_built.rules start count plain refl refl refl

  count_passes : walk_passes make_built [] start (count ∷ []) ≡ true
  unfolding walk_passes
  count_passes = passes make_built start count [] plain refl refl refl refl

  count_level : level_passes make_built [] nothing_held (count ∷ []) false ≡ true
  count_level = ap₂ (level make_built) count_passes count_walk

  pub making_taken : takes command_line (codes "make" ∷ count ∷ []) ≡ true
  unfolding clap_on_literals
  making_taken = ap below count_level

  pub making_found : form_found (subcommand_of command_line (codes "make" ∷ count ∷ [])) ≡ make_of (number_of count)
  unfolding clap_on_literals
  making_found = ap (λ (w : Walk). form_found (Some (codes "make", finished make_built.rules w.held))) count_walk

-- `ask SELECT SCHEMA`
module _ (select schema : Text) (plain : IsPlain select) (also : IsPlain schema) where
  abbrev one : Walk
  one = after ask_built start select

  two_walk : walk ask_built.rules [] nothing_held (select ∷ schema ∷ []) ≡ after ask_built one schema
  two_walk = ap (on ask_built (schema ∷ [])) (step ask_built.rules start select plain refl refl refl)
      ∙ step ask_built.rules one schema also refl refl refl

  two_passes : walk_passes ask_built [] start (select ∷ schema ∷ []) ≡ true
  unfolding walk_passes
  two_passes = passes ask_built start select (schema ∷ []) plain refl refl refl refl
      ∙ passes ask_built one schema [] also refl refl refl refl

  two_level : level_passes ask_built [] nothing_held (select ∷ schema ∷ []) false ≡ true
  two_level = ap₂ (level ask_built) two_passes two_walk

  pub tables_question_taken : takes command_line (codes "ask" ∷ select ∷ schema ∷ []) ≡ true
  unfolding clap_on_literals
  tables_question_taken = ap below two_level

  pub tables_question_found : form_found (subcommand_of command_line (codes "ask" ∷ select ∷ schema ∷ [])) ≡ Some (AskTables select schema)
  unfolding clap_on_literals
  tables_question_found = ap (λ (w : Walk). form_found (Some (codes "ask", finished ask_built.rules w.held))) two_walk

-- `script T Q S m p`
module _ (t q s m p : Text) (pt : IsPlain t) (pq : IsPlain q) (ps : IsPlain s) (pm : IsPlain m) (pp : IsPlain p) where
  abbrev after_t : Walk
  after_t = after script_built start t

  abbrev after_q : Walk
  after_q = after script_built after_t q

  abbrev after_s : Walk
  after_s = after script_built after_q s

  abbrev after_m : Walk
  after_m = after script_built after_s m

  five_walk : walk script_built.rules [] nothing_held (t ∷ q ∷ s ∷ m ∷ p ∷ []) ≡ after script_built after_m p
  five_walk = ap (on script_built (q ∷ s ∷ m ∷ p ∷ [])) (step script_built.rules start t pt refl refl refl)
      ∙ ap (on script_built (s ∷ m ∷ p ∷ [])) (step script_built.rules after_t q pq refl refl refl)
      ∙ ap (on script_built (m ∷ p ∷ [])) (step script_built.rules after_q s ps refl refl refl)
      ∙ ap (on script_built (p ∷ [])) (step script_built.rules after_s m pm refl refl refl)
      ∙ step script_built.rules after_m p pp refl refl refl

  five_pass : walk_passes script_built [] start (t ∷ q ∷ s ∷ m ∷ p ∷ []) ≡ true
  unfolding walk_passes
  five_pass = passes script_built start t (q ∷ s ∷ m ∷ p ∷ []) pt refl refl refl refl
      ∙ passes script_built after_t q (s ∷ m ∷ p ∷ []) pq refl refl refl refl
      ∙ passes script_built after_q s (m ∷ p ∷ []) ps refl refl refl refl
      ∙ passes script_built after_s m (p ∷ []) pm refl refl refl refl
      ∙ passes script_built after_m p [] pp refl refl refl refl

  five_level : level_passes script_built [] nothing_held (t ∷ q ∷ s ∷ m ∷ p ∷ []) false ≡ true
  five_level = ap₂ (level script_built) five_pass five_walk

  pub script_taken : takes command_line (codes "script" ∷ t ∷ q ∷ s ∷ m ∷ p ∷ []) ≡ true
  unfolding clap_on_literals
  script_taken = ap below five_level

  pub script_is_found : form_found (subcommand_of command_line (codes "script" ∷ t ∷ q ∷ s ∷ m ∷ p ∷ []))
      ≡ script_of (number_of t) (number_of q) (number_of s) (number_of m) (number_of p)
  unfolding clap_on_literals
  script_is_found = ap (λ (w : Walk). form_found (Some (codes "script", finished script_built.rules w.held))) five_walk

-- `script T Q S m p SCHEMA`
module _ (t q s m p schema : Text) (pt : IsPlain t) (pq : IsPlain q) (ps : IsPlain s) (pm : IsPlain m) (pp : IsPlain p) (also : IsPlain schema) where
  abbrev after_p : Walk
  after_p = after script_built (after_m t q s m p pt pq ps pm pp) p

  six_walk : walk script_built.rules [] nothing_held (t ∷ q ∷ s ∷ m ∷ p ∷ schema ∷ []) ≡ after script_built after_p schema
  six_walk = ap (on script_built (q ∷ s ∷ m ∷ p ∷ schema ∷ [])) (step script_built.rules start t pt refl refl refl)
      ∙ ap (on script_built (s ∷ m ∷ p ∷ schema ∷ [])) (step script_built.rules (after_t t q s m p pt pq ps pm pp) q pq refl refl refl)
      ∙ ap (on script_built (m ∷ p ∷ schema ∷ [])) (step script_built.rules (after_q t q s m p pt pq ps pm pp) s ps refl refl refl)
      ∙ ap (on script_built (p ∷ schema ∷ [])) (step script_built.rules (after_s t q s m p pt pq ps pm pp) m pm refl refl refl)
      ∙ ap (on script_built (schema ∷ [])) (step script_built.rules (after_m t q s m p pt pq ps pm pp) p pp refl refl refl)
      ∙ step script_built.rules after_p schema also refl refl refl

  six_pass : walk_passes script_built [] start (t ∷ q ∷ s ∷ m ∷ p ∷ schema ∷ []) ≡ true
  unfolding walk_passes
  six_pass = passes script_built start t (q ∷ s ∷ m ∷ p ∷ schema ∷ []) pt refl refl refl refl
      ∙ passes script_built (after_t t q s m p pt pq ps pm pp) q (s ∷ m ∷ p ∷ schema ∷ []) pq refl refl refl refl
      ∙ passes script_built (after_q t q s m p pt pq ps pm pp) s (m ∷ p ∷ schema ∷ []) ps refl refl refl refl
      ∙ passes script_built (after_s t q s m p pt pq ps pm pp) m (p ∷ schema ∷ []) pm refl refl refl refl
      ∙ passes script_built (after_m t q s m p pt pq ps pm pp) p (schema ∷ []) pp refl refl refl refl
      ∙ passes script_built after_p schema [] also refl refl refl refl

  six_level : level_passes script_built [] nothing_held (t ∷ q ∷ s ∷ m ∷ p ∷ schema ∷ []) false ≡ true
  six_level = ap₂ (level script_built) six_pass six_walk

  pub tables_script_taken : takes command_line (codes "script" ∷ t ∷ q ∷ s ∷ m ∷ p ∷ schema ∷ []) ≡ true
  unfolding clap_on_literals
  tables_script_taken = ap below six_level

  pub tables_script_found : form_found (subcommand_of command_line (codes "script" ∷ t ∷ q ∷ s ∷ m ∷ p ∷ schema ∷ []))
      ≡ over_tables schema (script_of (number_of t) (number_of q) (number_of s) (number_of m) (number_of p))
  unfolding clap_on_literals
  tables_script_found = ap (λ (w : Walk). form_found (Some (codes "script", finished script_built.rules w.held))) six_walk
