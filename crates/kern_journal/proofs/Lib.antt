-- the words of a new image, one more at a time
mod NewImageLemmas
-- the journal of a new image
mod NewLemmas
