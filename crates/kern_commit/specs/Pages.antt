-- The steps that zero a page, under names that no proof writes out: they are hundreds.
use Rattle.std.specs.Prelude.{ℕ, List}
use Rattle.kern_model.specs.declared.inner.Inner.{Inner}
use Rattle.kern_model.specs.KernelCalls.{zeros_of, lines_of_page}

-- each of its words is stored 0
unfoldable pub page_zeros : ℕ → List Inner
page_zeros page = zeros_of page

-- each of its lines is flushed
unfoldable pub page_flushes : ℕ → List Inner
page_flushes page = lines_of_page page
