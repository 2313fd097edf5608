-- Taking the lease of a directory, and giving it back.
use Rattle.std.proofs.Common.{◌≡◌, inl, inr, ℕ, ◌≤◌, List, true, false, Some, refl, sym, ap, ◌∙◌, arith, le_refl}
use Rattle.zo_lease.specs.Words.{holder_of, expiry_of}
use Rattle.zo_model.specs.CofferWords.{IsDir}
use Rattle.zo_shared.specs.Shared.{Shared, lease_of, IsSound}
use Rattle.zo_shared.specs.Deeds.{Take, GiveBack, IsOpenTo, MayDo, does, put_at}
use Rattle.zo_shared.proofs.Frames.{Acts, Done}
use Rattle.zo_shared.proofs.Changes.{put_here, put_other, side_is}
use Rattle.zo_shared.proofs.Sides.{held_some, one_holder, here_still, here_noted, here_counted, here_few, here_entries, here_pages, here_same, side_done}

differ : false ≡ true → ⊥
differ e = cc

module _ (g : Shared) (thread now : ℕ) (names : List (List ℕ)) (own : ℕ) (s : IsSound g) where
  module _ (may : MayDo thread now (Take names own) g) where
    dir : IsDir g.tree names
    dir = may.may.0

    abbrev taken : Shared
    taken = does thread now (Take names own) g

    taken_lease : lease_of taken names ≡ own
    taken_lease = side_is g s names dir 1 (omega arith) (omega arith) own

    was_open : IsOpenTo g now names → (other : ℕ) → holder_of (lease_of g names) ≡ Some other → now ≤ expiry_of (lease_of g names) → ⊥
    was_open (inl none) other held fresh = held_some (lease_of g names) other held none
    was_open (inr past) other held fresh = omega (arith, past, fresh)

    take_acts : Acts thread g taken names
    take_acts = record {
      home = refl;
      bases = refl;
      raises = le_refl (g.raises names);
      kept = record {
        free = λ none. absurd (held_some own thread may.may.2 (sym taken_lease ∙ none));
        noted = here_noted g s names dir 1 (omega arith) (omega arith) own now g.use_of g.drawn g.frees g.raises (put_at g.raised names false) (λ e. omega (arith, e));
        counted = here_counted g s names dir 1 (omega arith) (omega arith) own now g.use_of g.drawn g.frees g.raises (put_at g.raised names false) (λ e. omega (arith, e));
        few = here_few g s names dir 1 (omega arith) (omega arith) own now g.use_of g.drawn g.frees g.raises (put_at g.raised names false);
        entries = here_entries g s names dir 1 (omega arith) (omega arith) own now g.use_of g.drawn g.frees g.raises (put_at g.raised names false) (λ e. omega (arith, e)) (λ p e. e);
        pages = here_pages g s names dir 1 (omega arith) (omega arith) own now g.use_of g.drawn g.frees g.raises (put_at g.raised names false) (λ e. omega (arith, e)) (λ p e. e) (λ p e. e);
      };
      danger = λ stood d. absurd (differ (sym (put_here g.raised names false) ∙ d.raised));
      same = λ stood calm. here_same g s names dir 1 (omega arith) (omega arith) own now g.use_of g.drawn g.frees g.raises (put_at g.raised names false) (λ e. omega (arith, e));
      alone = λ other differs held fresh. was_open may.may.1 other held fresh;
    }

    pub take_done : Done thread g taken
    take_done =
        side_done g s names dir 1 (omega arith) (omega arith) own thread now g.frees g.raises (put_at g.raised names false) may.later (λ os other. refl) (λ os other. refl)
        (λ os other. put_other g.raised names false os other) take_acts

  module _ (may : MayDo thread now (GiveBack names own) g) where
    given_dir : IsDir g.tree names
    given_dir = may.may.dir

    abbrev given : Shared
    given = does thread now (GiveBack names own) g

    given_lease : lease_of given names ≡ 0
    given_lease = side_is g s names given_dir 1 (omega arith) (omega arith) 0

    give_acts : Acts thread g given names
    give_acts = record {
      home = refl;
      bases = refl;
      raises = le_refl (g.raises names);
      kept = record {
        free = λ none. here_still g s names given_dir 1 (omega arith) (omega arith) 0 now g.use_of g.drawn g.frees g.raises g.raised may.may.still;
        noted = here_noted g s names given_dir 1 (omega arith) (omega arith) 0 now g.use_of g.drawn g.frees g.raises g.raised (λ e. omega (arith, e));
        counted = here_counted g s names given_dir 1 (omega arith) (omega arith) 0 now g.use_of g.drawn g.frees g.raises g.raised (λ e. omega (arith, e));
        few = here_few g s names given_dir 1 (omega arith) (omega arith) 0 now g.use_of g.drawn g.frees g.raises g.raised;
        entries = here_entries g s names given_dir 1 (omega arith) (omega arith) 0 now g.use_of g.drawn g.frees g.raises g.raised (λ e. omega (arith, e)) (λ p e. e);
        pages = here_pages g s names given_dir 1 (omega arith) (omega arith) 0 now g.use_of g.drawn g.frees g.raises g.raised (λ e. omega (arith, e)) (λ p e. e) (λ p e. e);
      };
      danger = λ stood d. absurd (d.live.some given_lease);
      same = λ stood calm. here_same g s names given_dir 1 (omega arith) (omega arith) 0 now g.use_of g.drawn g.frees g.raises g.raised (λ e. omega (arith, e));
      alone = λ other differs held fresh. differs (one_holder other thread (sym held ∙ ap holder_of may.may.own_is ∙ may.may.holder));
    }

    pub give_back_done : Done thread g given
    give_back_done =
        side_done g s names given_dir 1 (omega arith) (omega arith) 0 thread now g.frees g.raises g.raised may.later (λ os other. refl) (λ os other. refl) (λ os other. refl) give_acts
