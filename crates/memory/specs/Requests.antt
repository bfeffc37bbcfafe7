-- What a memory answers to a request, and which words it then means.
use Rattle.std.specs.Prelude.{List, [], ◌∷◌, length, fold}
use Rattle.memory.specs.declared.request.Request.{Request}
use Rattle.memory.specs.declared.request.Request.TheVariants.{Size, Look, Lock, Put, Free}
use Rattle.memory.specs.declared.request.Response.{Response}
use Rattle.memory.specs.declared.request.Response.TheVariants.{Count, Shown, Done}
use Rattle.memory.specs.declared.word.Word.{Word}
use Rattle.memory.specs.Words.{look_at, lockable, locked, puttable, put_to, freeable, freed}

-- the answer to one request
abbrev pub response : List Word → Request → Response
response ws Size = Count (length ws)
response ws (Look a) = Shown (look_at ws a)
response ws (Lock a v h) = Done (lockable ws a v h)
response ws (Put a v x) = Done (puttable ws a v)
response ws (Free a h) = Done (freeable ws a h)

-- the words after one request; a size and a look change none
abbrev pub words_after : List Word → Request → List Word
words_after ws Size = ws
words_after ws (Look a) = ws
words_after ws (Lock a v h) = locked ws a v h
words_after ws (Put a v x) = put_to ws a v x
words_after ws (Free a h) = freed ws a h

-- the answers to a list of requests, each made of the words that those before it left
abbrev pub responses : List Word → List Request → List Response
responses ws [] = []
responses ws (q ∷ qs) = response ws q ∷ responses (words_after ws q) qs

-- the words after a list of requests
abbrev pub words_after_all : List Word → List Request → List Word
words_after_all ws qs = fold words_after ws qs
