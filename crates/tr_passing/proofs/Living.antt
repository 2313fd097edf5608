-- One more entry keeps all; and what a crash leaves then.
use Rattle.std.proofs.Common.{◌≡◌, ℕ, ◌<◌, ◌==◌, zero, suc, Bool, true, false, cond, List, [], ◌∷◌, ◌++◌, refl, sym, ap, subst, ◌∙◌, inl, inr, ◌⊎◌, arith, Contains, Some, None}
use Rattle.tr_types.specs.Paths.{names_of}
use Rattle.tr_types.proofs.FoldLemmas.{state_after_more, Each_more}
use Rattle.tr_types.specs.declared.entry.Entry.{Entry}
use Rattle.zo_model.specs.Tree.{Member, Node, Directory, FileOf, node_at}
use Rattle.tr_model.specs.Worlds.{Row, Standing, IsReady, root_row}
use Rattle.tr_replay.specs.Worlds.{Commit, World, never, replay_of, dropped, floor, stepped, world_of, world_after}
use Rattle.tr_replay.specs.Legal.{IsLegalBy}
use Rattle.tr_passing.specs.Units.{Units, IsOpen, Allowed, units_after}
use Rattle.tr_passing.specs.Laws.{IsTidy, IsAlone, IsOrdered, Owes, Differs, HasFiles, LiveMore, CrashLaw, root_standing}
use Rattle.tr_passing.proofs.Growth.{file_of}
use Rattle.tr_passing.proofs.Orders.{tidy_more}
use Rattle.tr_passing.proofs.Moves.{Rests, Tells, Moves, kind_of, allowed_never}
use Rattle.tr_passing.proofs.Keeping.{allowed_before, dropped_allowed, any_dropped}
use Rattle.tr_passing.proofs.Ordering.{ordered_more}
use Rattle.tr_passing.proofs.Differing.{node_more, node_other, cases_names, differs_more}

file_is_none : (bytes : List ℕ) → Some (FileOf bytes) ≡ Some Directory → ⊥
file_is_none bytes e = cc

-- what one more file leaves: only the root is a directory
file_grows : (tree : List Member) (path : List ℕ) → node_at tree (names_of path) ≡ None → ((names : List (List ℕ)) → node_at tree names ≡ Some Directory → names ≡ []) → (names : List (List ℕ)) → node_at (tree ++ file_of path ∷ []) names ≡ Some Directory → names ≡ []
file_grows tree path fresh files names is = by (cases_names names (names_of path))
  where
    by : (names ≡ names_of path) ⊎ (names ≡ names_of path → ⊥) → names ≡ []
    by (inr ne) = files names (sym (node_other tree (file_of path) names ne) ∙ is)
    by (inl same) = absurd (own (Rattle.zo_model.specs.Tree.same_names (names_of path) names) there)
      where
        there : cond (Rattle.zo_model.specs.Tree.same_names (names_of path) names) (Some (FileOf [])) None ≡ Some Directory
        there = sym (node_more tree (file_of path) names ∙ (λ i. Rattle.tr_passing.proofs.Differing.node_or ((ap (node_at tree) same ∙ fresh) i) (cond (Rattle.zo_model.specs.Tree.same_names (names_of path) names) (Some (FileOf [])) None))) ∙ is

        own : (b : Bool) → cond b (Some (FileOf [])) None ≡ Some Directory → ⊥
        own true e = file_is_none [] e
        own false e = cc

files_more : (w : World) (units : Units) (e : Entry) (tidy : IsTidy w.base) → HasFiles w → Owes w units e → HasFiles (stepped w e)
files_more w units e tidy files owes = by (kind_of w e units tidy owes.comes (owes.sure never (allowed_never w units)))
  where
    by : Rests w e units ⊎ (Tells w e units ⊎ Moves w e units tidy.alone.standing) → HasFiles (stepped w e)
    by (inl r) b names is = files b names (sym (ap (λ (trees : ℕ → List Member). node_at (trees b) names) (r.trees_are never)) ∙ is)
    by (inr (inl t)) b names is = files b names (sym (ap (λ (trees : ℕ → List Member). node_at (trees b) names) (t.trees_are never)) ∙ is)
    by (inr (inr m)) b names is =
        at (0 == b) (sym (ap (λ (t : List Member). node_at t names) (m.kept never refl (owes.sure never (allowed_never w units)) b)) ∙ is)
      where
        at : (t : Bool) → node_at (cond t ((replay_of w).trees 0 ++ file_of m.path ∷ []) ((replay_of w).trees b)) names ≡ Some Directory → names ≡ []
        at true s = file_grows ((replay_of w).trees 0) m.path m.makes.1.fresh (files 0) names s
        at false s = files b names s

pub live_more : LiveMore
live_more opening trace units e live owes = record {
  tidy = subst (λ (v : World). IsTidy v.base) more (tidy_more w.base e live.tidy owes.comes);
  ordered = subst (λ (v : World). IsOrdered v (units_after w e units)) more (ordered_more w units e live.tidy live.ordered owes);
  differs = subst (λ (v : World). Differs v (units_after w e units)) more (differs_more w units e live.tidy live.ordered live.differs owes);
  files = subst HasFiles more (files_more w units e live.tidy live.files owes);
  passed = λ drops allowed.
      let before = allowed_before drops w units e live.tidy live.ordered owes.comes (subst (λ (v : World). Allowed drops v (units_after w e units)) (sym more) allowed) in
      Each_more stepped (IsLegalBy drops) (world_of opening) trace e (live.passed drops before) (owes.sure drops before);
}
  where
    w : World
    w = world_after opening trace

    more : stepped (world_after opening trace) e ≡ world_after opening (trace ++ e ∷ [])
    more = sym (state_after_more stepped (world_of opening) trace e)

-- A change of a coffer that is ready: the root coffer is ready.

row_ready : (table : List Row) → IsAlone table → (row : Row) → Contains table row → row.standing ≡ IsReady → table ≡ root_row ∷ []
row_ready table alone row there ready =
    alone.is ∙ ap (λ (s : Standing). root_standing s ∷ []) (ap (λ (r : Row). r.standing) (only (subst (λ (rows : List Row). Contains rows row) alone.is there)) ∙ ready)
  where
    only : Contains (root_standing alone.standing ∷ []) row → root_standing alone.standing ≡ row
    only (zero, lt, at) = at
    only (suc k, lt, at) = absurd (omega (arith, lt))

pub crash_law : CrashLaw
crash_law opening trace units places image live left = record {
  legal = live.passed (dropped places w.base.commits) (dropped_allowed w units places image live.ordered left);
  unanswered = λ c there drop ready. live.ordered.unanswered (row_ready w.base.table live.tidy.alone ready.row ready.among ready.ready) c there (opened c there drop);
  last = λ c there drop ready. live.ordered.under c there (opened c there drop);
}
  where
    w : World
    w = world_after opening trace

    opened : (c : Commit) → Contains w.base.commits c → dropped places w.base.commits c.position ≡ true → IsOpen w.base c
    opened c there drop = by (any_dropped places c.position w.base.commits drop)
      where
        by : (d : Commit) × Contains w.base.commits d × (d.position ≡ c.position) × (places d.addr < d.place) → IsOpen w.base c
        by (d, among, at, less) =
            let low = left.low d.addr in
            subst (IsOpen w.base) (live.tidy.different d c among there at) (let o : floor w.base d.addr < d.place = omega (arith, low, less) in o)
