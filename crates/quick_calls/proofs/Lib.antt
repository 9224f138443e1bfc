mod Stopping
