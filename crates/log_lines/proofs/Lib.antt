mod Joins
mod OneLine
