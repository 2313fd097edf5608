-- Raising the counter of a directory, and noting the word of its next commit.
use Rattle.std.proofs.Common.{◌≡◌, ℕ, ◌+◌, ◌%◌, ◌^◌, List, true, refl, sym, ap, ◌∙◌, arith, le_refl}
use Rattle.zo_shared.specs.Shared.{Shared, counter_of, IsSound}
use Rattle.zo_shared.specs.Deeds.{Raise, Note, MayDo, does, put_at}
use Rattle.zo_shared.proofs.Frames.{Acts, Done}
use Rattle.zo_shared.proofs.Changes.{put_here, put_other, side_is}
use Rattle.zo_shared.proofs.Sides.{holds_alone, holds_danger, danger_was, here_opened, here_lease, here_free, here_noted, here_counted, here_few, here_entries, here_pages, side_done}

module _ (g : Shared) (thread now : ℕ) (names : List (List ℕ)) (s : IsSound g) (may : MayDo thread now (Raise names) g) where
  abbrev more : ℕ
  more = (counter_of g names + 1) % 2 ^ 64

  abbrev raises_now : List (List ℕ) → ℕ
  raises_now = put_at g.raises names (g.raises names + 1)

  abbrev raised : Shared
  raised = does thread now (Raise names) g

  raises_is : raised.raises names ≡ g.raises names + 1
  raises_is = put_here g.raises names (g.raises names + 1)

  stood_not : raised.raises names ≡ g.raises names → ⊥
  stood_not stood = let up = raises_is in omega (arith, stood, up)

  counter_is : counter_of raised names ≡ (raised.bases names + raised.raises names) % 2 ^ 64
  counter_is =
      let at_counter = side_is g s names may.may.dir 3 (omega arith) (omega arith) more in
      let was = (s.kept names may.may.dir).counted in
      at_counter
      ∙ (let sum : (counter_of g names + 1) % 2 ^ 64 ≡ (g.bases names + (g.raises names + 1)) % 2 ^ 64 = omega (arith, was) in sum)
      ∙ ap (λ (r : ℕ). (g.bases names + r) % 2 ^ 64) (sym raises_is)

  raise_acts : Acts thread g raised names
  raise_acts = record {
    home = refl;
    bases = refl;
    raises = (let up = raises_is in omega (arith, up));
    kept = record {
      free = here_free g s names may.may.dir 3 (omega arith) (omega arith) more now g.use_of g.drawn g.frees raises_now (put_at g.raised names true) (λ e. omega (arith, e));
      noted = here_noted g s names may.may.dir 3 (omega arith) (omega arith) more now g.use_of g.drawn g.frees raises_now (put_at g.raised names true) (λ e. omega (arith, e));
      counted = counter_is;
      few = (let up = raises_is in let low = (s.kept names may.may.dir).few in omega (arith, up, low));
      entries = here_entries g s names may.may.dir 3 (omega arith) (omega arith) more now g.use_of g.drawn g.frees raises_now (put_at g.raised names true) (λ e. omega (arith, e)) (λ p e. e);
      pages = here_pages g s names may.may.dir 3 (omega arith) (omega arith) more now g.use_of g.drawn g.frees raises_now (put_at g.raised names true) (λ e. omega (arith, e)) (λ p e. e) (λ p e. e);
    };
    danger = λ stood d. absurd (stood_not stood);
    same = λ stood calm. absurd (stood_not stood);
    alone = λ other differs held fresh. holds_alone g thread now names may.may other differs held;
  }

  pub raise_done : Done thread g raised
  raise_done =
      side_done g s names may.may.dir 3 (omega arith) (omega arith) more thread now g.frees raises_now (put_at g.raised names true) may.later (λ os other. refl)
      (λ os other. put_other g.raises names (g.raises names + 1) os other) (λ os other. put_other g.raised names true os other) raise_acts

module _ (g : Shared) (thread now : ℕ) (names : List (List ℕ)) (addr : ℕ) (s : IsSound g) (may : MayDo thread now (Note names addr) g) where
  abbrev noting : Shared
  noting = does thread now (Note names addr) g

  note_acts : Acts thread g noting names
  note_acts = record {
    home = refl;
    bases = refl;
    raises = le_refl (g.raises names);
    kept = record {
      free = here_free g s names may.may.0.dir 2 (omega arith) (omega arith) addr now g.use_of g.drawn g.frees g.raises g.raised (λ e. omega (arith, e));
      noted = λ c last opened.
          absurd (may.may.2 c last (here_opened g s names may.may.0.dir 2 (omega arith) (omega arith) addr now g.use_of g.drawn g.frees g.raises g.raised c opened));
      counted = here_counted g s names may.may.0.dir 2 (omega arith) (omega arith) addr now g.use_of g.drawn g.frees g.raises g.raised (λ e. omega (arith, e));
      few = here_few g s names may.may.0.dir 2 (omega arith) (omega arith) addr now g.use_of g.drawn g.frees g.raises g.raised;
      entries = here_entries g s names may.may.0.dir 2 (omega arith) (omega arith) addr now g.use_of g.drawn g.frees g.raises g.raised (λ e. omega (arith, e)) (λ p e. e);
      pages = here_pages g s names may.may.0.dir 2 (omega arith) (omega arith) addr now g.use_of g.drawn g.frees g.raises g.raised (λ e. omega (arith, e)) (λ p e. e) (λ p e. e);
    };
    danger = λ stood d.
        danger_was g noting names may.later refl (here_lease g s names may.may.0.dir 2 (omega arith) (omega arith) addr now g.use_of g.drawn g.frees g.raises g.raised (λ e. omega (arith, e))) d;
    same = λ stood calm. absurd (calm (holds_danger g thread now names may.may.0 may.later may.may.1));
    alone = λ other differs held fresh. holds_alone g thread now names may.may.0 other differs held;
  }

  pub note_done : Done thread g noting
  note_done = side_done g s names may.may.0.dir 2 (omega arith) (omega arith) addr thread now g.frees g.raises g.raised may.later (λ os other. refl) (λ os other. refl) (λ os other. refl) note_acts
