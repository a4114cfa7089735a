-- `Names` has the law of a name that is written in two parts.
mod Names
