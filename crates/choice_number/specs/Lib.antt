-- What a choice by two vias rests on.
pub mod Note
-- The code's own steps.
pub mod Told
